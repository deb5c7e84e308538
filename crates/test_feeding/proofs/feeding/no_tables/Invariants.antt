use Rattle.std.proofs.Common.{◌≡◌, [], replicate}
use Rattle.test_feeding.proofs.feeding.no_tables.Given as goal

abbrev pub invariant-loop : goal.invariant-loop
invariant-loop l = l.tables.items ≡ replicate l.counter []
