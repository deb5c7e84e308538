use Rattle.std.proofs.Common.{◌≡◌, take}
use Rattle.cedr_table.specs.Operators.{least_of}
use Rattle.cedr_table.proofs.marks.least_mark.Given as goal

abbrev pub invariant-loop-mark : goal.invariant-loop-mark
invariant-loop-mark l = l.least ≡ least_of (take l.mark-index l.fn.marks)
