use Rattle.std.proofs.Common.{◌≡◌, ℕ, ◌-◌, ◌<◌, ◌≤◌, List, None}
use Rattle.std.specs.Prelude.{nat_le, nat_lt, ◌&&◌, option_map, if◌then◌else◌}
use Rattle.std.specs.List.{filter}
use Rattle.cedr_base.specs.declared.row.Row.{Row}
use Rattle.op_group.specs.Groups.{lives_at}
use Rattle.op_group.specs.Cuts.{segment_at, segment_shifted}
use Rattle.op_group.specs.Measures.{extremes_of}
use Rattle.op_group.specs.Sides.{PassesBetween, TellsBetween, HaveExtremes}
use Rattle.op_group.proofs.cuts.shift_between.Given as goal

abbrev pub invariant-loop-at : goal.invariant-loop-at
invariant-loop-at l = record {
  after : l.from ≤ l.at;
  shifted : (old new : List Row) → PassesBetween l.passing l.from l.to old new → TellsBetween l.asked l.living l.from l.to new → HaveExtremes l.asked l.from l.to old l.initial.cuts.entries
      → ((u : ℕ) → l.to ≤ u → u < l.at → l.from ≤ u → segment_at u l.cuts.entries ≡ None)
      × ((u : ℕ) → segment_at u l.cuts.entries ≡ (if nat_le l.from u && nat_lt u l.at then option_map (segment_shifted l.passing.up l.passing.numbers (extremes_of l.asked (filter (lives_at u) new))) (segment_at u l.initial.cuts.entries) else segment_at u l.initial.cuts.entries));
}

abbrev pub decreases-loop-at : goal.decreases-loop-at
decreases-loop-at l = l.to - l.at
