use Rattle.std.proofs.Common.{◌++◌, length}
use Rattle.std.specs.List.{filter}
use Rattle.cedr_base.specs.Rows.{SameRows}
use Rattle.filed_rows.specs.Spans.{lives_within}
use Rattle.op_except.specs.Parts.{parts}
use Rattle.op_except.specs.Around.{unflipped, AreFlipped}
use Rattle.op_except.proofs.around.free_parts.Given as goal

abbrev pub invariant-loop-next : goal.invariant-loop-next
invariant-loop-next l =
    AreFlipped l.fn.busy → AreFlipped l.busy × SameRows (l.found.items ++ filter (lives_within l.from l.to) (parts l.rest (unflipped l.busy))) (filter (lives_within l.from l.to) (parts l.fn.row (unflipped l.fn.busy)))

abbrev pub decreases-loop-next : goal.decreases-loop-next
decreases-loop-next l = length l.busy
