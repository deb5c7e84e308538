use Rattle.std.proofs.Common.{ℕ}
use Rattle.std.specs.List.{All}
use Rattle.pat_state.specs.Keys.{AreEqual}
use Rattle.pat_state.proofs.key.add_partners.Given as goal

abbrev pub invariant-loop-test : goal.invariant-loop-test
invariant-loop-test l = (column : ℕ) → All (AreEqual l.tests column) l.initial.known.items → All (AreEqual l.tests column) l.known.items
