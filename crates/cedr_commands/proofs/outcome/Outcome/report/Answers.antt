use Rattle.std.proofs.Common.{inl}
use Rattle.cedr_commands.specs.Outcomes.{memory_text}
use Rattle.cedr_commands.proofs.EndingLemmas.{words_tried}
use Rattle.cedr_commands.proofs.outcome.Outcome.report.Goals as goal

pub returns-in_default-clause-lacking : goal.returns-in_default-clause-lacking
returns-in_default-clause-lacking g c lacks =
    inl (words_tried c.write_all.result (g.E.Sink.written c.args.err.now) (g.E.Sink.written c.write_all.new.sink) memory_text c.write_all.ensures.ok c.write_all.ensures.err)
