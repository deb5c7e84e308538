use Rattle.std.proofs.Common.{map, arith}
use Rattle.cedr_net.specs.Flows.{no_ports}
use Rattle.plan_follow.proofs.StateLemmas.{first_holds}
use Rattle.plan_follow.proofs.player.OpenPlayer.new.Goals as goal

pub returns : goal.returns
returns c =
    let nodes = c.args.plan.now.nodes.items in
    first_holds nodes (record { guards = c.in_ok-guards.guards; net = c.in_ok-net.net }) (map no_ports nodes) (omega (arith, c.in_ok-guards.ensures.count, c.len.ensures)) c.in_ok-guards.ensures.none c.in_ok-net.ensures.stands
