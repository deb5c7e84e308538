use Rattle.std.proofs.Common.{◌≤◌, ◌++◌, take}
use Rattle.cedr_base.specs.declared.row.Row.{Row}
use Rattle.cedr_base.specs.Rows.{count_of, SameRows}
use Rattle.cedr_base.specs.Changes.{all_takes, all_puts}
use Rattle.op_except.specs.Lives.{bares, AreLives}
use Rattle.op_except.proofs.lives.Lives.note_all.Given as goal

abbrev pub invariant-loop-change : goal.invariant-loop-change
invariant-loop-change l =
    AreLives l.initial.self.by_begin.keys l.initial.self.by_end → ((r : Row) → count_of r (bares (all_takes l.changes)) ≤ count_of r l.initial.self.by_end)
    → AreLives l.self.by_begin.keys l.self.by_end × SameRows (l.self.by_end ++ bares (all_takes (take l.change-index l.changes))) (l.initial.self.by_end ++ bares (all_puts (take l.change-index l.changes)))
