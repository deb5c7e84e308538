use Rattle.std.proofs.Common.{length}
use Rattle.cedr_table.specs.Counted.{ends_after, SameAmong}
use Rattle.cedr_table.proofs.table.Table.forget_ended.Given as goal

abbrev pub invariant-loop-gone : goal.invariant-loop-gone
invariant-loop-gone l = SameAmong (ends_after l.time) l.self l.initial.self

abbrev pub decreases-loop-gone : goal.decreases-loop-gone
decreases-loop-gone l = length l.self
