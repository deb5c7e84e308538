use Rattle.std.proofs.Common.{refl}
use Rattle.cedr_guard.proofs.GuardLemmas.{guards-promise}
use Rattle.cedr_guard.proofs.guard.Guard.promise.Goals as goal

pub returns-clause-stands : goal.returns-clause-stands
returns-clause-stands c = λ before guards.
    guards-promise c.args.self.now _ before c.args.time guards c.requires.event (c.promise.ensures.stands before guards.judge) refl
