use Rattle.std.proofs.Common.{length}
use Rattle.cedr_table.specs.Counted.{SameAmong, ends_after}
use Rattle.op_except.specs.Lives.{AreLives}
use Rattle.op_except.proofs.lives.Lives.forget_ended.Given as goal

abbrev pub invariant-loop-gone : goal.invariant-loop-gone
invariant-loop-gone l = record {
  lives : AreLives l.self.by_begin.keys l.self.by_end;
  same : SameAmong (ends_after l.time) l.self.by_end l.initial.self.by_end;
}

abbrev pub decreases-loop-gone : goal.decreases-loop-gone
decreases-loop-gone l = length l.self.by_end
