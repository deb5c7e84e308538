use Rattle.std.proofs.Common.{ap, ◌∙◌, refl}
use Rattle.node_laws.specs.Lawful.{is_over}
use Rattle.worker_outlets.specs.Outgoing.{Outgoing}
use Rattle.worker_outlets.specs.Outlets.{total_of}
use Rattle.worker_outlets.specs.contracts.outlet.Outlet.{the_view}
use Rattle.worker_outlets.proofs.Pending.{may_close, closed_view}
use Rattle.worker_outlets.proofs.outlet.Outlet.close.Goals as goal

pub invariant_of-self : goal.invariant_of-self
invariant_of-self c = (may_close c.self.inside.last c.args.last _ _ (ap (λ (o : Outgoing). is_over (total_of o)) c.self.view_is ∙ c.requires) c.self.invariant.0, c.self.invariant.1)

pub returns : goal.returns
returns c = closed_view c.self.inside.last c.args.last (the_view c.self.inside) c.args.self.now _ c.self.view_is refl c.requires
