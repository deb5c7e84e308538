use Rattle.std.proofs.Common.{sym, subst}
use Rattle.node_laws.specs.Lists.{list_at}
use Rattle.op_node.specs.Readings.{NodeOperator}
use Rattle.cedr_node.specs.declared.aligned.Aligned.{Aligned}
use Rattle.cedr_node.specs.Standing.{AllStand, IsForgottenAt}
use Rattle.cedr_node.proofs.NodeLemmas.{stands_forgot}
use Rattle.cedr_node.proofs.node.Node.forgotten.Goals as goal

pub returns : goal.returns
returns c = λ lists given stands.
    let stand = subst (λ (a : Aligned NodeOperator). AllStand a.ports.items lists) (sym c.deref.ensures) stands.between.ports_stand in
    stands_forgot c.args.self.now lists given stands c.args.port c.forgotten.result.now c.requires
    (subst (λ (a : Aligned NodeOperator). IsForgottenAt a.ports.items c.args.port (list_at lists c.args.port) c.forgotten.result.now) c.deref.ensures (c.forgotten.ensures lists stand))
