use Rattle.std.proofs.Common.{sym, ap}
use Rattle.worker_outlets.specs.Outgoing.{Outgoing}
use Rattle.worker_outlets.proofs.Pending.{commits_none}
use Rattle.worker_outlets.proofs.outlet.Outlet.commit.Goals as goal

pub returns-else-is_none : goal.returns-else-is_none
returns-else-is_none c = commits_none c.self.inside.last c.args.self.now _ (c.if-is_none.ensures) (sym (ap (λ (o : Outgoing). o.pending) c.self.view_is)) c.requires
