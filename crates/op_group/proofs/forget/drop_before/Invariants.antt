use Rattle.std.proofs.Common.{◌≡◌, ℕ, ◌≤◌, true, length}
use Rattle.std.specs.Prelude.{is_some}
use Rattle.op_group.specs.Cuts.{segment_at}
use Rattle.op_group.specs.Points.{Leaves}
use Rattle.op_group.proofs.forget.drop_before.Given as goal

abbrev pub invariant-loop-before : goal.invariant-loop-before
invariant-loop-before l = record {
  same_key : l.point.key ≡ l.initial.point.key;
  kept : (u : ℕ) → l.at ≤ u → segment_at u l.cuts.entries ≡ segment_at u l.initial.cuts.entries;
  left : Leaves l.initial.point.key l.initial.cuts.entries l.cuts.entries l.initial.all.keys l.all.keys;
  fewer : (u : ℕ) → is_some (segment_at u l.cuts.entries) ≡ true → is_some (segment_at u l.initial.cuts.entries) ≡ true;
}

abbrev pub decreases-loop-before : goal.decreases-loop-before
decreases-loop-before l = length l.cuts.entries
