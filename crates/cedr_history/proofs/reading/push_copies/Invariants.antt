use Rattle.std.proofs.Common.{◌≡◌, ◌++◌, take, map}
use Rattle.std.specs.Arc.{arc_value}
use Rattle.cedr_history.proofs.reading.push_copies.Given as goal

abbrev pub invariant-loop-change : goal.invariant-loop-change
invariant-loop-change l = l.out.items ≡ l.initial.out.items ++ map arc_value (take l.change-index l.changes)
