use Rattle.std.proofs.Common.{◌≡◌, [], List, replicate}
use Rattle.std.specs.List.{All}
use Rattle.cedr_expr.specs.declared.test.Test.{Test}
use Rattle.pat_state.specs.Tied.{AreCrossed}
use Rattle.pat_atleast.specs.Crossings.{rows_by_port}
use Rattle.pat_atleast.proofs.pairs.Pairs.new.Given as goal

abbrev pub invariant-loop : goal.invariant-loop
invariant-loop l = record {
  rows : rows_by_port l.ports.items ≡ replicate l.counter [];
  tags : (tests : List Test) → All (AreCrossed 0 tests) l.ports.items;
}
