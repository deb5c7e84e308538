-- What is asked of the fields of rows, side by side, and what becomes of it when a row comes or goes.
use Rattle.std.specs.Prelude.{ℕ, ◌≡◌, ◌+◌, ◌≤◌, ◌<◌, List, ◌++◌, Bool, true, false, Option, Some, None, map, sum_by, if◌then◌else◌}
use Rattle.std.specs.List.{slice_get, filter}
use Rattle.std.specs.declared.cmp.Ordering.{Ordering}
use Rattle.cedr_base.specs.declared.field.Field.{Field}
use Rattle.cedr_base.specs.declared.row.Row.{Row}
use Rattle.cedr_base.specs.Order.{field_cmp}
use Rattle.cedr_living.specs.Fields.{first_of, first_by, field_cmp_back}
use Rattle.cedr_living.specs.Lives.{Living, fields_at}
use Rattle.cedr_living.specs.Bags.{KeepsLives}
use Rattle.cedr_living.specs.declared.living.LivingFields.{LivingFields}
use Rattle.op_group.specs.declared.extremes.Side.{Side}
use Rattle.op_group.specs.declared.segment.Totalled.{Totalled}
use Rattle.op_group.specs.declared.segment.Segment.{Segment}
use Rattle.op_group.specs.Groups.{column_fields, lives_at}
use Rattle.op_group.specs.Tallies.{Tally, PassedTotals}
use Rattle.op_group.specs.Cuts.{segment_at}
use Rattle.op_group.specs.Measures.{extremes_of}

-- what is asked for, the least fields first
abbrev pub sides : Totalled → List Side
sides asked = map (λ column. record { is_least = true; column = column }) asked.least ++ map (λ column. record { is_least = false; column = column }) asked.greatest

-- the order whose first field is asked for
abbrev pub side_cmp : Side → Field → Field → Ordering
side_cmp side = if side.is_least then field_cmp else field_cmp_back

-- the first field of a side among those of rows
abbrev pub extreme_in : List Row → Side → Option Field
extreme_in rows side = first_by (side_cmp side) (column_fields rows side.column)

-- the first field of a side among those that live at a time
abbrev pub extreme_at : Side → ℕ → List Living → Option Field
extreme_at side t lives = first_by (side_cmp side) (fields_at side.column t lives)

-- the first one after a row came with a field, or without one
abbrev pub met_side : Side → Option Field → Option Field → Option Field
met_side side None extreme = extreme
met_side side (Some field) extreme = first_of (side_cmp side) field extreme

-- some payloads are others and one more, or others are these and one more
abbrev pub Passes : Bool → List Field → List Row → List Row → Type 0
Passes true payload old new = (w : List Field → ℕ) → sum_by (λ (r : Row). w r.payload) new ≡ w payload + sum_by (λ (r : Row). w r.payload) old
Passes false payload old new = (w : List Field → ℕ) → sum_by (λ (r : Row). w r.payload) old ≡ w payload + sum_by (λ (r : Row). w r.payload) new

-- a bag of lives tells at a time the first fields of rows
pub record Tells (asked : Totalled) (living : LivingFields) (t : ℕ) (rows : List Row) : Type 0 where
  pub lives : List Living
  pub keeps : KeepsLives living lives
  pub low : living.from ≤ t
  pub same : (place : ℕ) (side : Side) → slice_get (sides asked) place ≡ Some side → extreme_at side t lives ≡ extreme_in rows side

-- at each time between two times the payloads of the rows that are valid are others and one more, or the other way round
abbrev pub PassesBetween : PassedTotals → ℕ → ℕ → List Row → List Row → Type 0
PassesBetween passed from to old new = (t : ℕ) → from ≤ t → t < to → Passes passed.up passed.payload (filter (lives_at t) old) (filter (lives_at t) new)

-- at each time between two times a bag of lives tells the first fields of the rows that are valid
abbrev pub TellsBetween : Totalled → LivingFields → ℕ → ℕ → List Row → Type 0
TellsBetween asked living from to rows = (t : ℕ) → from ≤ t → t < to → Tells asked living t (filter (lives_at t) rows)

-- a segment, if there is one, has the least and the greatest fields of rows
abbrev pub HasExtremes : Totalled → List Row → Option Segment → Type 0
HasExtremes asked rows found = (s : Segment) → found ≡ Some s → s.totals.extremes ≡ extremes_of asked rows

-- each segment between two times has those of the rows that are valid from it on
abbrev pub HaveExtremes : Totalled → ℕ → ℕ → List Row → List (ℕ × Segment) → Type 0
HaveExtremes asked from to rows cuts = (t : ℕ) → from ≤ t → t < to → HasExtremes asked (filter (lives_at t) rows) (segment_at t cuts)

-- between two times the totals have the least and the greatest fields of the rows that are valid
abbrev pub TalliesExtremes : Totalled → ℕ → ℕ → List Row → (ℕ → Tally) → Type 0
TalliesExtremes asked from to rows tally = (t : ℕ) → from ≤ t → t < to → (tally t).extremes ≡ extremes_of asked (filter (lives_at t) rows)
