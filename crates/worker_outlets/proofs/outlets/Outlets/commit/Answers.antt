use Rattle.std.proofs.Common.{sym, subst}
use Rattle.worker_outlets.specs.Outlets.{AllTotal, AllStaged}
use Rattle.worker_outlets.proofs.outlets.Outlets.commit.Goals as goal

pub returns-clause-given : goal.returns-clause-given
returns-clause-given c given piece all staged = c.commit_each.ensures.given given piece (subst (AllTotal given) (sym c.self.view_is) all) (subst (AllStaged piece) (sym c.self.view_is) staged)
