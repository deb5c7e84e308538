use Rattle.std.proofs.Common.{◌≡◌, ◌++◌, ◌∷◌, [], replicate}
use Rattle.cedr_net.proofs.answer.push_copies.Given as goal

abbrev pub invariant-loop : goal.invariant-loop
invariant-loop l = l.rows.items ++ l.row ∷ [] ≡ l.initial.rows.items ++ replicate l.counter l.row
