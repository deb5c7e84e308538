use Rattle.std.proofs.Common.{Vec, Global}
use Rattle.cedr_source.specs.declared.entries.Entries.{Entries}
use Rattle.cedr_commands.specs.Seen.{seen_files, seen_sink}
use Rattle.cedr_commands.specs.declared.command.Job.TheVariants.{Parts}
use Rattle.cedr_commands.proofs.EndingLemmas.{plan_given, plan_stopped}
use Rattle.cedr_parts.proofs.answer.answer_divided.Goals as goal

pub returns-in-Ok-clause-ends : goal.returns-in-Ok-clause-ends
returns-in-Ok-clause-ends g c = λ number.
    plan_given (Parts number) c.args.plan.now.nodes.items c.in-Ok.left.items (seen_files g.F.Files.content g.F.Files.faults g.F.Files.asked c.args.files.now) (seen_files g.F.Files.content g.F.Files.faults g.F.Files.asked c.open_beside.new.files) (seen_sink g.K.Sink.written g.K.Sink.faults c.args.out.now) (seen_sink g.K.Sink.written g.K.Sink.faults c.answer.new.out) c.answer.result
    c.in-Ok.ensures.opened c.in-Ok.ensures.counted (c.answer.ensures number)

pub returns-in-Err-clause-ends : goal.returns-in-Err-clause-ends
returns-in-Err-clause-ends g c = λ number.
    plan_stopped (Vec Entries Global) (Parts number) c.args.plan.now.nodes.items (seen_files g.F.Files.content g.F.Files.faults g.F.Files.asked c.args.files.now) (seen_files g.F.Files.content g.F.Files.faults g.F.Files.asked c.open_beside.new.files) (seen_sink g.K.Sink.written g.K.Sink.faults c.args.out.now) c.in-Err.outcome
    c.in-Err.ensures.stops c.in-Err.ensures.counted c.in-Err.ensures.opened
