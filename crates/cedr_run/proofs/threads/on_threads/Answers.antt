use Rattle.std.proofs.Common.{refl}
use Rattle.plan_answer.specs.Sources.{source_files}
use Rattle.cedr_commands.specs.Seen.{seen_files, seen_sink}
use Rattle.cedr_commands.proofs.EndingLemmas.{asks_more, is_opened, sources_asked}
use Rattle.cedr_run.proofs.PlanLemmas.{plan_ended, reads_by, wrote_run}
use Rattle.cedr_run.proofs.StrongLemmas.{streams_nothing, streams_plan}
use Rattle.cedr_run.proofs.threads.on_threads.Goals as goal

pub returns-in-Ok-clause-ends : goal.returns-in-Ok-clause-ends
returns-in-Ok-clause-ends g c = λ checkpoint script.
    plan_ended c.args.job c.requires.job (seen_files g.F.Files.content g.F.Files.faults g.F.Files.asked c.args.files.now) (seen_files g.F.Files.content g.F.Files.faults g.F.Files.asked c.open_plan.new.files) (seen_files g.F.Files.content g.F.Files.faults g.F.Files.asked c.run_plan.new.files) c.args.file.now checkpoint script c.in-Ok.plan.nodes.items
    (is_opened (seen_files g.F.Files.content g.F.Files.faults g.F.Files.asked c.args.files.now) c.args.file.now c.in-Ok.plan c.in-Ok.ensures.opened) c.in-Ok.ensures.counted c.in-Ok.ensures.contents
    (seen_sink g.K.Sink.written g.K.Sink.faults c.args.out.now) (seen_sink g.K.Sink.written g.K.Sink.faults c.run_plan.new.out) c.run_plan.result.edges.items c.run_plan.result.ran.items c.run_plan.result.outcome c.run_plan.ensures.ends

pub returns-in-Ok-clause-asked : goal.returns-in-Ok-clause-asked
returns-in-Ok-clause-asked g c = λ checkpoint script.
    sources_asked c.args.job (seen_files g.F.Files.content g.F.Files.faults g.F.Files.asked c.args.files.now) (seen_files g.F.Files.content g.F.Files.faults g.F.Files.asked c.run_plan.new.files) c.args.file.now checkpoint script c.in-Ok.plan.nodes.items (reads_by c.args.job c.requires.job)
    (is_opened (seen_files g.F.Files.content g.F.Files.faults g.F.Files.asked c.args.files.now) c.args.file.now c.in-Ok.plan c.in-Ok.ensures.opened)
    (asks_more (g.F.Files.asked c.args.files.now) (g.F.Files.asked c.open_plan.new.files) (g.F.Files.asked c.run_plan.new.files) c.args.file.now (source_files c.in-Ok.plan.nodes.items) c.in-Ok.ensures.asked c.run_plan.ensures.asked)

pub returns-in-Ok-clause-ran : goal.returns-in-Ok-clause-ran
returns-in-Ok-clause-ran g c = λ done checkpoint script.
    wrote_run c.args.job c.requires.job (seen_files g.F.Files.content g.F.Files.faults g.F.Files.asked c.args.files.now) (seen_files g.F.Files.content g.F.Files.faults g.F.Files.asked c.open_plan.new.files) (seen_files g.F.Files.content g.F.Files.faults g.F.Files.asked c.run_plan.new.files) c.args.file.now checkpoint script c.in-Ok.plan.nodes.items
    (is_opened (seen_files g.F.Files.content g.F.Files.faults g.F.Files.asked c.args.files.now) c.args.file.now c.in-Ok.plan c.in-Ok.ensures.opened) c.in-Ok.ensures.counted c.in-Ok.ensures.contents
    (seen_sink g.K.Sink.written g.K.Sink.faults c.args.out.now) (seen_sink g.K.Sink.written g.K.Sink.faults c.run_plan.new.out) c.run_plan.result.edges.items c.run_plan.result.ran.items c.run_plan.result.outcome done c.run_plan.ensures.ends

pub returns-in-Ok-clause-strong : goal.returns-in-Ok-clause-strong
returns-in-Ok-clause-strong g c = λ is.
    streams_plan (seen_files g.F.Files.content g.F.Files.faults g.F.Files.asked c.args.files.now) (seen_files g.F.Files.content g.F.Files.faults g.F.Files.asked c.open_plan.new.files) c.args.file.now c.in-Ok.plan.nodes.items (seen_sink g.K.Sink.written g.K.Sink.faults c.args.out.now) (seen_sink g.K.Sink.written g.K.Sink.faults c.run_plan.new.out)
    (is_opened (seen_files g.F.Files.content g.F.Files.faults g.F.Files.asked c.args.files.now) c.args.file.now c.in-Ok.plan c.in-Ok.ensures.opened) c.in-Ok.ensures.contents (c.run_plan.ensures.strong is)

pub returns-in-Err-clause-strong : goal.returns-in-Err-clause-strong
returns-in-Err-clause-strong g c = λ is. streams_nothing (seen_files g.F.Files.content g.F.Files.faults g.F.Files.asked c.args.files.now) c.args.file.now (seen_sink g.K.Sink.written g.K.Sink.faults c.args.out.now) (seen_sink g.K.Sink.written g.K.Sink.faults c.args.out.now) refl
