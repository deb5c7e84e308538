use Rattle.std.proofs.Common.{arith}
use Rattle.message_cases.proofs.NetLemmas.{fed_none}
use Rattle.message_cases.proofs.network.start.Goals as goal

pub returns : goal.returns
returns c = fed_none c.args.plan.nodes.items c.in_ok-net.net c.in_ok-came.came.items _ c.in_ok-net.ensures.stands (omega (arith, c.in_ok-came.ensures.count, c.len.ensures)) c.in_ok-came.ensures.none
