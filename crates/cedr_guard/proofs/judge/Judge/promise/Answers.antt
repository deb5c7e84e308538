use Rattle.std.proofs.Common.{refl}
use Rattle.cedr_guard.proofs.StandingLemmas.{stands-promise}
use Rattle.cedr_guard.proofs.judge.Judge.promise.Goals as goal

pub returns-clause-stands : goal.returns-clause-stands
returns-clause-stands c = λ before stands. stands-promise c.args.self.now _ before c.args.time stands refl (λ q. refl) c.max-self.ensures
