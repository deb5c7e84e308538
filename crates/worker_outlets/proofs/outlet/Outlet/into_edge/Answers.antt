use Rattle.std.proofs.Common.{◌≡◌, true, subst}
use Rattle.node_laws.specs.Lawful.{is_over}
use Rattle.cedr_edge.proofs.Lists.{all_sent}
use Rattle.worker_outlets.specs.Outgoing.{Outgoing}
use Rattle.worker_outlets.specs.Outlets.{total_of}
use Rattle.worker_outlets.proofs.outlet.Outlet.into_edge.Goals as goal

pub returns-clause-all : goal.returns-clause-all
returns-clause-all c = subst (λ (o : Outgoing). is_over o.sent ≡ true → c.self.inside.edge.sent ≡ total_of o) c.self.view_is (λ over. all_sent _ _ over c.self.invariant.0)
