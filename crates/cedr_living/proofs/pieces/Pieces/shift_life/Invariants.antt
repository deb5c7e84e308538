use Rattle.std.proofs.Common.{◌≡◌, ℕ, ◌+◌, ◌<◌, ◌^◌}
use Rattle.std.specs.Prelude.{◌&&◌, nat_lt, if◌then◌else◌}
use Rattle.cedr_living.specs.declared.place.Place.{Place}
use Rattle.cedr_living.specs.Pieces.{pieces}
use Rattle.cedr_living.specs.Counts.{moved_by}
use Rattle.cedr_living.specs.Indexes.{comes, ShowsCounts, is_of}
use Rattle.cedr_living.proofs.pieces.Pieces.shift_life.Given as goal

abbrev pub invariant-loop-from : goal.invariant-loop-from
invariant-loop-from l = record {
  room : l.place.level + l.to < 2 ^ 64;
  column : l.place.column ≡ l.initial.place.column;
  field : l.place.field ≡ l.initial.place.field;
  later : (k at : ℕ) → pieces (l.place.level + k) l.fn.begin l.fn.end at ≡ pieces k l.from l.to at;
  shows : (counts : Place → ℕ) → ShowsCounts l.initial.self counts → ShowsCounts l.self (λ q. moved_by (comes l.fn.way) (counts q) (if is_of l.initial.place.column l.initial.place.field q && nat_lt q.level l.place.level then pieces q.level l.fn.begin l.fn.end q.at else 0));
}

abbrev pub decreases-loop-from : goal.decreases-loop-from
decreases-loop-from l = l.to
