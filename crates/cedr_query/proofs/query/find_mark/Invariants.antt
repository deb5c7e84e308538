use Rattle.std.proofs.Common.{◌≡◌, take}
use Rattle.std.specs.Prelude.{map}
use Rattle.cedr_table.specs.Operators.{mark_at}
use Rattle.cedr_query.proofs.query.find_mark.Given as goal

abbrev pub invariant-loop-input : goal.invariant-loop-input
invariant-loop-input l = l.given.items ≡ map (mark_at l.marks) (take l.input-index l.input-items)
