use Rattle.std.proofs.Common.{◌≡◌, ◌++◌, replicate}
use Rattle.pat_state.specs.Steps.{begun}
use Rattle.pat_state.proofs.matches.push_begun.Given as goal

abbrev pub invariant-loop : goal.invariant-loop
invariant-loop l = l.rows.items ≡ l.initial.rows.items ++ replicate l.counter (begun l.scope l.row)
