use Rattle.cedr_commands.specs.Seen.{seen_sink}
use Rattle.cedr_commands.proofs.EndingLemmas.{ends_in_turns}
use Rattle.cedr_commands.proofs.sources.give.Goals as goal

pub returns-in_default : goal.returns-in_default
returns-in_default g c =
    ends_in_turns c.args.job c.requires.job c.requires.alone c.in_default.not-Audit c.args.plan.now.nodes.items c.args.left.items (seen_sink g.K.Sink.written g.K.Sink.faults c.args.out.now) (seen_sink g.K.Sink.written g.K.Sink.faults c.answer-in_default.new.out) c.answer-in_default.result c.answer-in_default.ensures
