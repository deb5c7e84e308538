use Rattle.std.proofs.Common.{◌≡◌, ◌++◌, ◌∷◌, [], replicate}
use Rattle.cedr_align.proofs.held.push_copies.Given as goal

abbrev pub invariant-loop : goal.invariant-loop
invariant-loop l = l.rows.items ++ l.row ∷ [] ≡ l.initial.rows.items ++ replicate l.counter l.row
