use Rattle.std.proofs.Common.{◌≡◌, true, [], ◌∷◌, refl, sym, subst}
use Rattle.cedr_base.specs.declared.change.Message.{Message}
use Rattle.cedr_edge.specs.Ends.{InEnd}
use Rattle.node_laws.specs.Lawful.{is_over}
use Rattle.cedr_edge.proofs.Lists.{over_append}
use Rattle.worker_tests.proofs.edges.take_all.Goals as goal

pub returns-in-Some-End-clause-over : goal.returns-in-Some-End-clause-over
returns-in-Some-End-clause-over g c =
    subst (λ (e : InEnd). is_over e.taken ≡ true) (sym c.in-Some-End.ensures.taken)
    (over_append c.loop.«from».taken (c.in-Some-End.field-0 ∷ []) (subst (λ (m : Message). is_over (m ∷ []) ≡ true) (sym c.in-Some-End.field-0-is) refl))
