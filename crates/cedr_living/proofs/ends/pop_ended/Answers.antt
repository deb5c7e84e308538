use Rattle.std.proofs.Common.{arith}
use Rattle.std.proofs.lemmas.Bool.{false≢true}
use Rattle.cedr_living.specs.EndLaws.{not_after}
use Rattle.cedr_living.proofs.LivingLemmas.{none_without}
use Rattle.cedr_living.proofs.ends.pop_ended.Goals.{in_default-via-in-Some+else-first-time, in_default-via-in_default}
use Rattle.cedr_living.proofs.ends.pop_ended.Goals as goal

pub returns-in_default-clause-none : goal.returns-in_default-clause-none
returns-in_default-clause-none c = λ e there. elim c.in_default.branch [
  | in_default-via-in-Some+else-first-time w ↦ let later = not_after w.in-Some.first.now e (w.in-Some.ensures.least e there) in omega (arith, w.if-first-time.false)
  | in_default-via-in_default w ↦ absurd (none_without c.args.ends.now.entries (λ some. false≢true (w.in_default.ensures.variant.1 some)) e there)
]
