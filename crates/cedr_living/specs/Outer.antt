-- The first field of some pieces, seen from a side.
use Rattle.std.specs.Prelude.{ℕ, ◌≡◌, ◌<◌, ◌≤◌, List, Bool, false, ◌&&◌, Option, Some, None, nat_eq, IsSome, if◌then◌else◌}
use Rattle.std.specs.Ordering.{is_gt, is_lt}
use Rattle.std.specs.declared.cmp.Ordering.TheVariants.{Less}
use Rattle.std.specs.declared.cmp.Ordering.{Ordering}
use Rattle.cedr_base.specs.declared.field.Field.{Field}
use Rattle.cedr_base.specs.Order.{field_cmp}
use Rattle.cedr_living.specs.declared.outer.Side.{Side}
use Rattle.cedr_living.specs.declared.outer.Side.TheVariants.{Least, Greatest}
use Rattle.cedr_living.specs.declared.place.Place.{Place}
use Rattle.cedr_living.specs.declared.pieces.Pieces.{Pieces}
use Rattle.cedr_living.specs.Fields.{first_of, field_cmp_back}
use Rattle.cedr_living.specs.Pieces.{halved, seen_piece}
use Rattle.cedr_living.specs.Indexes.{IsIn, count_at, place_cmp}

-- the order of fields from a side on
abbrev pub outer_cmp : Side → Field → Field → Ordering
outer_cmp Least = field_cmp
outer_cmp Greatest = field_cmp_back

-- the first one of two fields, where there are any
abbrev pub first_of_both : (Field → Field → Ordering) → Option Field → Option Field → Option Field
first_of_both cmp None o = o
first_of_both cmp (Some f) o = first_of cmp f o

-- the field of a place, if it is of a column in a piece
abbrev pub field_in : ℕ → ℕ → ℕ → Option Place → Option Field
field_in column level at None = None
field_in column level at (Some p) = if nat_eq p.column column && (nat_eq p.level level && nat_eq p.at at) then p.field else None

-- the first place of a map after another one
pub record IsNextPlace (entries : List (Place × ℕ)) (from : Place) (next : Option Place) : Type 0 where
  pub there : (p : Place) → next ≡ Some p → IsSome (count_at entries p)
  pub first : (q : Place) → place_cmp from q ≡ Less → IsSome (count_at entries q) → (p : Place) × (next ≡ Some p) × (place_cmp from p ≡ Less) × (is_gt (place_cmp p q) ≡ false)

-- the last place of a map before another one
pub record IsLastPlace (entries : List (Place × ℕ)) (to : Place) (last : Option Place) : Type 0 where
  pub there : (p : Place) → last ≡ Some p → IsSome (count_at entries p)
  pub final : (q : Place) → place_cmp q to ≡ Less → IsSome (count_at entries q) → (p : Place) × (last ≡ Some p) × (place_cmp p to ≡ Less) × (is_lt (place_cmp p q) ≡ false)

-- a field is in a piece of some level that a time is in
pub record IsSeenField (bag : Pieces) (rests : Bool) (column t : ℕ) (field : Field) : Type 0 where
  pub level : ℕ
  pub low : bag.low ≤ level
  pub high : level < bag.high
  pub there : IsIn bag.counts.entries column level (seen_piece rests (halved level t)) field

-- the same among the levels below one
pub record IsSeenBelow (bag : Pieces) (rests : Bool) (column t below : ℕ) (field : Field) : Type 0 where
  pub level : ℕ
  pub low : bag.low ≤ level
  pub high : level < below
  pub there : IsIn bag.counts.entries column level (seen_piece rests (halved level t)) field
