use Rattle.std.proofs.Common.{◌≡◌, ◌++◌, replicate}
use Rattle.pat_unless.proofs.terms.push_copies.Given as goal

abbrev pub invariant-loop : goal.invariant-loop
invariant-loop l = l.rows.items ≡ l.initial.rows.items ++ replicate l.counter (record { end = l.end; begin = l.begin; payload = l.payload })
