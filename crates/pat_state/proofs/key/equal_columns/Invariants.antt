use Rattle.std.specs.List.{All}
use Rattle.pat_state.specs.Keys.{AreEqual}
use Rattle.pat_state.proofs.key.equal_columns.Given as goal

abbrev pub invariant-loop : goal.invariant-loop
invariant-loop l = All (AreEqual l.tests l.column) l.known.items
