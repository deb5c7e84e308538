use Rattle.plan_answer.specs.Sources.{source_files}
use Rattle.cedr_commands.specs.Seen.{seen_files, seen_sink}
use Rattle.cedr_commands.specs.declared.command.Job.TheVariants.{Parts}
use Rattle.cedr_commands.proofs.EndingLemmas.{asks_more, is_opened, plan_ended, sources_asked}
use Rattle.cedr_parts.proofs.command.carry_out.Goals as goal

pub returns-in-Ok-clause-ends : goal.returns-in-Ok-clause-ends
returns-in-Ok-clause-ends g c = λ checkpoint script.
    plan_ended (Parts c.args.count) tt (seen_files g.F.Files.content g.F.Files.faults g.F.Files.asked c.args.files.now) (seen_files g.F.Files.content g.F.Files.faults g.F.Files.asked c.open_plan.new.files) (seen_files g.F.Files.content g.F.Files.faults g.F.Files.asked c.on_parts.new.files) c.args.file.now checkpoint script c.in-Ok.plan.nodes.items
    (is_opened (seen_files g.F.Files.content g.F.Files.faults g.F.Files.asked c.args.files.now) c.args.file.now c.in-Ok.plan c.in-Ok.ensures.opened) c.in-Ok.ensures.counted c.in-Ok.ensures.contents
    (seen_sink g.K.Sink.written g.K.Sink.faults c.args.out.now) (seen_sink g.K.Sink.written g.K.Sink.faults c.on_parts.new.out) c.on_parts.result c.on_parts.ensures.ends

pub returns-in-Ok-clause-asked : goal.returns-in-Ok-clause-asked
returns-in-Ok-clause-asked g c = λ checkpoint script.
    sources_asked (Parts c.args.count) (seen_files g.F.Files.content g.F.Files.faults g.F.Files.asked c.args.files.now) (seen_files g.F.Files.content g.F.Files.faults g.F.Files.asked c.on_parts.new.files) c.args.file.now checkpoint script c.in-Ok.plan.nodes.items tt
    (is_opened (seen_files g.F.Files.content g.F.Files.faults g.F.Files.asked c.args.files.now) c.args.file.now c.in-Ok.plan c.in-Ok.ensures.opened)
    (asks_more (g.F.Files.asked c.args.files.now) (g.F.Files.asked c.open_plan.new.files) (g.F.Files.asked c.on_parts.new.files) c.args.file.now (source_files c.in-Ok.plan.nodes.items) c.in-Ok.ensures.asked c.on_parts.ensures.asked)
