use Rattle.std.proofs.Common.{ℕ, length}
use Rattle.std.specs.BTreeMap.{IsOrdered}
use Rattle.std.specs.Ordering.{nat_cmp}
use Rattle.cedr_table.specs.Counted.{ends_after, SameAmong}
use Rattle.filed_rows.specs.Filed.{under}
use Rattle.filed_rows.specs.Ends.{AreEnds}
use Rattle.filed_rows.proofs.filed.forget_due.Given as goal

abbrev pub invariant-loop-tag : goal.invariant-loop-tag
invariant-loop-tag l = record {
  ends : AreEnds l.by_tag.entries l.ends;
  ordered : IsOrdered nat_cmp l.by_tag;
  same : (q : ℕ) → SameAmong (ends_after l.time) (under l.by_tag.entries q) (under l.initial.by_tag.entries q);
}

abbrev pub decreases-loop-tag : goal.decreases-loop-tag
decreases-loop-tag l = length l.ends
