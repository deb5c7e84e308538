use Rattle.std.proofs.Common.{arith, rules, ◌≡◌, length}
use Rattle.cedr_node.proofs.NodeLemmas.{stands_ports}
use Rattle.message_cases.proofs.NodeLemmas.{came_length}
use Rattle.message_cases.proofs.node.tell_forgotten.Goals as goal

pub forgotten-requires : goal.forgotten-requires
forgotten-requires g c =
    let fed = c.args.fed.now in
    let count : c.len.result ≡ length fed.came.items = search rules in
    omega (arith, c.if-port-len.false, count, came_length fed.came.items c.requires.lists c.requires.came_are, stands_ports fed.node c.requires.lists c.requires.given c.requires.stands)
