use Rattle.std.proofs.Common.{◌≡◌, ℕ, ◌+◌, ◌<◌, ◌^◌, false}
use Rattle.std.specs.Prelude.{◌&&◌, nat_lt, if◌then◌else◌}
use Rattle.cedr_living.specs.declared.place.Place.{Place}
use Rattle.cedr_living.specs.Pieces.{steps, is_rest}
use Rattle.cedr_living.specs.Counts.{moved_by}
use Rattle.cedr_living.specs.Indexes.{comes, ShowsCounts, is_of}
use Rattle.cedr_living.proofs.pieces.Pieces.shift_steps.Given as goal

abbrev pub invariant-loop-from : goal.invariant-loop-from
invariant-loop-from l = record {
  room : l.place.level + l.from < 2 ^ 64;
  some : l.place.level + 1 < 2 ^ 64;
  column : l.place.column ≡ l.initial.place.column;
  field : l.place.field ≡ l.initial.place.field;
  later : (k at : ℕ) → steps (l.place.level + k) l.fn.begin at ≡ steps k l.from at;
  rest : (k : ℕ) → is_rest (l.place.level + k) l.fn.begin ≡ is_rest k l.from;
  earlier : (k : ℕ) → k < l.place.level → is_rest k l.fn.begin ≡ false;
  shows : (counts : Place → ℕ) → ShowsCounts l.initial.self counts → ShowsCounts l.self (λ q. moved_by (comes l.fn.way) (counts q) (if is_of l.initial.place.column l.initial.place.field q && nat_lt q.level l.place.level then steps q.level l.fn.begin q.at else 0));
}

abbrev pub decreases-loop-from : goal.decreases-loop-from
decreases-loop-from l = l.from
