use Rattle.std.proofs.Common.{List, arith, subst, sym}
use Rattle.cedr_edge.specs.Ends.{InEnd}
use Rattle.plan_edges.specs.Wires.{AreOver}
use Rattle.plan_workers.proofs.ClosingLemmas.{ends_wired, inputs_over}
use Rattle.plan_workers.proofs.ending.close_all.Goals as goal

pub take_apart-requires-clause-takers : goal.take_apart-requires-clause-takers
take_apart-requires-clause-takers g c = let room = c.requires.desk.takers in (room.0, omega (arith, room.1, c.finish_each-ends.ensures.count))

pub take_apart-requires-clause-putters : goal.take_apart-requires-clause-putters
take_apart-requires-clause-putters g c = let room = c.requires.desk.putters in (room.0, omega (arith, room.1, c.finish_each-ends.ensures.count))

pub take_apart-requires-clause-ran : goal.take_apart-requires-clause-ran
take_apart-requires-clause-ran g c = let room = c.requires.desk.ran in (room.0, omega (arith, room.1, c.finish_each-ends.ensures.count))

pub take_apart-requires-clause-parts : goal.take_apart-requires-clause-parts
take_apart-requires-clause-parts g c = let room = c.requires.desk.parts in (room.0, omega (arith, room.1, c.finish_each-ends.ensures.count))

pub close_wires-requires-clause-wired : goal.close_wires-requires-clause-wired
close_wires-requires-clause-wired g c =
    let w = c.requires.works in
    let apart = c.take_apart in
    ends_wired g.S.Source.rest g.S.Source.faults c.args.plan.now.nodes.items w.0 apart.new.takers.items w.1 apart.new.putters.items w.2 w.3 w.4 c.finish_each-ends.result.items w.5 w.6 (c.finish_each-ends.ensures.left w.4 w.7) apart.ensures.takers apart.ensures.putters

pub close_wires-requires-clause-over : goal.close_wires-requires-clause-over
close_wires-requires-clause-over g c =
    let w = c.requires.works in
    subst AreOver (sym {A = List (List InEnd)} c.take_apart.ensures.takers) (inputs_over g.S.Source.rest g.S.Source.faults w.4 c.finish_each-ends.result.items (c.finish_each-ends.ensures.left w.4 w.7))
