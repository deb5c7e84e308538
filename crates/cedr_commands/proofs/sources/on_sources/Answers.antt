use Rattle.plan_answer.specs.Sources.{source_files}
use Rattle.cedr_commands.specs.Seen.{seen_files, seen_sink}
use Rattle.cedr_commands.proofs.EndingLemmas.{asks_more, is_opened, plan_asked, plan_ended, sources_asked, sources_no_plan}
use Rattle.cedr_commands.proofs.sources.on_sources.Goals as goal

pub returns-in-Ok-clause-ends : goal.returns-in-Ok-clause-ends
returns-in-Ok-clause-ends g c = λ checkpoint script.
    plan_ended c.args.job c.requires.job (seen_files g.F.Files.content g.F.Files.faults g.F.Files.asked c.args.files.now) (seen_files g.F.Files.content g.F.Files.faults g.F.Files.asked c.open_plan.new.files) (seen_files g.F.Files.content g.F.Files.faults g.F.Files.asked c.on_plan.new.files) c.args.file.now checkpoint script c.in-Ok.plan.nodes.items
    (is_opened (seen_files g.F.Files.content g.F.Files.faults g.F.Files.asked c.args.files.now) c.args.file.now c.in-Ok.plan c.in-Ok.ensures.opened) c.in-Ok.ensures.counted c.in-Ok.ensures.contents
    (seen_sink g.K.Sink.written g.K.Sink.faults c.args.out.now) (seen_sink g.K.Sink.written g.K.Sink.faults c.on_plan.new.out) c.on_plan.result c.on_plan.ensures.ends

pub returns-in-Ok-clause-asked : goal.returns-in-Ok-clause-asked
returns-in-Ok-clause-asked g c = λ checkpoint script.
    sources_asked c.args.job (seen_files g.F.Files.content g.F.Files.faults g.F.Files.asked c.args.files.now) (seen_files g.F.Files.content g.F.Files.faults g.F.Files.asked c.on_plan.new.files) c.args.file.now checkpoint script c.in-Ok.plan.nodes.items c.requires.job
    (is_opened (seen_files g.F.Files.content g.F.Files.faults g.F.Files.asked c.args.files.now) c.args.file.now c.in-Ok.plan c.in-Ok.ensures.opened)
    (asks_more (g.F.Files.asked c.args.files.now) (g.F.Files.asked c.open_plan.new.files) (g.F.Files.asked c.on_plan.new.files) c.args.file.now (source_files c.in-Ok.plan.nodes.items) c.in-Ok.ensures.asked c.on_plan.ensures.asked)

pub returns-in-Err-clause-ends : goal.returns-in-Err-clause-ends
returns-in-Err-clause-ends g c = λ checkpoint script.
    sources_no_plan c.args.job c.args.file.now checkpoint script (seen_files g.F.Files.content g.F.Files.faults g.F.Files.asked c.args.files.now) (seen_files g.F.Files.content g.F.Files.faults g.F.Files.asked c.open_plan.new.files) (seen_sink g.K.Sink.written g.K.Sink.faults c.args.out.now) c.in-Err.outcome c.requires.job c.in-Err.ensures.opened c.in-Err.ensures.counted

pub returns-in-Err-clause-asked : goal.returns-in-Err-clause-asked
returns-in-Err-clause-asked g c = λ checkpoint script.
    plan_asked c.args.job (seen_files g.F.Files.content g.F.Files.faults g.F.Files.asked c.args.files.now) (seen_files g.F.Files.content g.F.Files.faults g.F.Files.asked c.open_plan.new.files) c.args.file.now checkpoint script c.requires.job c.in-Err.ensures.asked
