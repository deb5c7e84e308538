use Rattle.std.proofs.Common.{◌≡◌, ◌++◌, replicate}
use Rattle.pat_state.proofs.matches.push_joined.Given as goal

abbrev pub invariant-loop : goal.invariant-loop
invariant-loop l = l.rows.items ≡ l.initial.rows.items ++ replicate l.counter (record { end = l.so_far.end; begin = l.row.begin; payload = l.so_far.payload ++ l.row.payload })
