use Rattle.std.proofs.Common.{rules}
use Rattle.cedr_commands.proofs.SayingLemmas.{said_more}
use Rattle.cedr_commands.proofs.saying.said_of.Goals as goal

pub loop-source-preserved : goal.loop-source-preserved
loop-source-preserved c = said_more c.args.nodes.now c.args.faulty.now c.loop-source.source-index _ c.loop-source.said.items c.say_source.new.said.items (search rules) c.loop-source.invariant c.in_ok-say_source.ensures
