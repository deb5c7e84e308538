-- What an index of lives keeps of them.
use Rattle.std.specs.Prelude.{ℕ, ◌≡◌, ◌<◌, ◌≤◌, ◌-◌, ◌*◌, List, [], Bool, true, false, ◌&&◌, Option, Some, nat_eq, sum_by, IsSome, if◌then◌else◌}
use Rattle.std.specs.declared.cmp.Ordering.{Ordering}
use Rattle.std.specs.Ordering.{nat_cmp, ordering_then, is_eq}
use Rattle.std.specs.Option.{option_cmp}
use Rattle.cedr_base.specs.declared.field.Field.{Field}
use Rattle.cedr_base.specs.Order.{field_cmp}
use Rattle.cedr_living.specs.declared.place.Place.{Place}
use Rattle.cedr_living.specs.declared.pieces.Pieces.{Pieces}
use Rattle.cedr_living.specs.declared.pieces.Way.{Way}
use Rattle.cedr_living.specs.declared.pieces.Way.TheVariants.{In, Out}
use Rattle.cedr_living.specs.declared.index.Index.{Index}
use Rattle.cedr_living.specs.Lives.{Living}
use Rattle.cedr_living.specs.Counts.{key_count, counted, moved_by}
use Rattle.cedr_living.specs.Pieces.{pieces_of, rests_of}

-- places compare by their columns, then by their levels, then by the pieces, then by the fields
abbrev pub place_cmp : Place → Place → Ordering
place_cmp a b = ordering_then (nat_cmp a.column b.column) (ordering_then (nat_cmp a.level b.level) (ordering_then (nat_cmp a.at b.at) (option_cmp field_cmp a.field b.field)))

-- what a map has at a place
abbrev pub count_at : List (Place × ℕ) → Place → Option ℕ
count_at entries q = key_count place_cmp entries q

-- whether a life comes
abbrev pub comes : Way → Bool
comes (In alloc) = true
comes Out = false

-- a place is of a column and a field
abbrev pub is_of : ℕ → Option Field → Place → Bool
is_of column field q = nat_eq column q.column && is_eq (option_cmp field_cmp field q.field)

-- a place is of the column, the field and the level of another one
abbrev pub is_on : Place → Place → Bool
is_on place q = is_of place.column place.field q && nat_eq place.level q.level

-- The map has these counts, and only at the levels that are told.
pub record ShowsCounts (bag : Pieces) (counts : Place → ℕ) : Type 0 where
  pub at : (q : Place) → count_at bag.counts.entries q ≡ counted (counts q)
  pub within : (q : Place) → 0 < counts q → (bag.low ≤ q.level) × (q.level < bag.high)

-- how often a place is that of a piece of a life
abbrev pub piece_count : Place → Living → ℕ
piece_count q life = if is_of life.column (Some life.field) q then pieces_of life q.level q.at else 0

-- how often a place is that of the rest of a life
abbrev pub rest_count : Place → Living → ℕ
rest_count q life = if is_of life.column (Some life.field) q then rests_of life q.level q.at else 0

-- An index keeps some lives: each place counts those lives that have a piece there.
pub record Indexes (index : Index) (lives : List Living) : Type 0 where
  pub pieces : ShowsCounts index.pieces (λ q. sum_by (piece_count q) lives)
  pub rests : ShowsCounts index.rests (λ q. sum_by (rest_count q) lives)

-- a map has a field in a piece of a column
pub record IsIn (entries : List (Place × ℕ)) (column level at : ℕ) (field : Field) : Type 0 where
  pub some : IsSome (count_at entries (record { column = column; level = level; at = at; field = Some field }))

-- an index without entries
abbrev pub IsBareIndex : Index → Type 0
IsBareIndex index = (index.pieces.counts.entries ≡ []) × (index.rests.counts.entries ≡ [])

-- a life more or a life less is kept
pub record Changes (up : Bool) (old new : Index) (life : Living) : Type 0 where
  pub pieces : (counts : Place → ℕ) → ShowsCounts old.pieces counts → ShowsCounts new.pieces (λ q. moved_by up (counts q) (piece_count q life))
  pub rests : (counts : Place → ℕ) → ShowsCounts old.rests counts → ShowsCounts new.rests (λ q. moved_by up (counts q) (rest_count q life))

-- so many lives less are kept
pub record Loses (count : ℕ) (old new : Index) (life : Living) : Type 0 where
  pub pieces : (counts : Place → ℕ) → ShowsCounts old.pieces counts → ShowsCounts new.pieces (λ q. counts q - count * piece_count q life)
  pub rests : (counts : Place → ℕ) → ShowsCounts old.rests counts → ShowsCounts new.rests (λ q. counts q - count * rest_count q life)
