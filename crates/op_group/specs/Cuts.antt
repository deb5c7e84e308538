-- The cut points of one group, as a map keeps them.
use Rattle.std.specs.Prelude.{ℕ, ◌≡◌, ◌<◌, ◌≤◌, ◌+◌, ◌-◌, ◌%◌, ◌^◌, List, [], ◌∷◌, ◌++◌, Bool, true, false, cond, Option, Some, None, map, nat_lt, nat_eq, if◌then◌else◌, IsSome, ◌⊎◌}
use Rattle.std.specs.Int.{w128, cast_signed}
use Rattle.std.specs.List.{flat_map, filter_map}
use Rattle.std.specs.Map.{lookup}
use Rattle.std.specs.BTreeMap.{is_at}
use Rattle.std.specs.Ordering.{nat_cmp}
use Rattle.cedr_base.specs.declared.field.Field.{Field}
use Rattle.cedr_base.specs.declared.field.Field.TheVariants.{Number}
use Rattle.cedr_base.specs.declared.row.Row.{Row}
use Rattle.cedr_base.specs.declared.change.Change.{Change}
use Rattle.cedr_base.specs.declared.change.Change.TheVariants.{Add, Cut}
use Rattle.cedr_base.specs.Rows.{count_of}
use Rattle.op_group.specs.declared.segment.Segment.{Segment}
use Rattle.op_group.specs.Groups.{modular}
use Rattle.op_group.specs.Tallies.{Tally}

-- what a map has at a time
abbrev pub segment_at : ℕ → List (ℕ × Segment) → Option Segment
segment_at t cuts = lookup (is_at (nat_cmp t)) cuts

-- The map shows these numbers: at a time where some begins and ends stand, how many they are, how many rows live from
-- there on, and their totals; and nothing at any other time.
pub record ShowsCuts (cuts : List (ℕ × Segment)) (edges living : ℕ → ℕ) (tally : ℕ → Tally) : Type 0 where
  pub at : (t : ℕ) → segment_at t cuts ≡ (if nat_eq (edges t) 0 then None else Some (record { edges = edges t; living = living t; totals = tally t }))

-- where no begin and no end stands the rows that live stay the same, and before all of them there are none, with the
-- totals of none
pub record StaysBetweenCuts (empty : Tally) (edges living : ℕ → ℕ) (tally : ℕ → Tally) : Type 0 where
  pub living_stays : (p t : ℕ) → p ≤ t → ((u : ℕ) → p < u → u ≤ t → edges u ≡ 0) → living t ≡ living p
  pub sums_stay : (p t : ℕ) → p ≤ t → ((u : ℕ) → p < u → u ≤ t → edges u ≡ 0) → tally t ≡ tally p
  pub none_live : (t : ℕ) → ((u : ℕ) → u ≤ t → edges u ≡ 0) → living t ≡ 0
  pub none_summed : (t : ℕ) → ((u : ℕ) → u ≤ t → edges u ≡ 0) → tally t ≡ empty

-- one at a time, and nothing at each other
abbrev pub one_at : ℕ → ℕ → ℕ
one_at t u = if nat_eq t u then 1 else 0

-- the fields of a row of the result after its key
abbrev pub totals : Bool → ℕ → Tally → List Field
totals counted living tally = (if counted then modular living ∷ [] else []) ++ (map (λ n. Number (cast_signed w128 n)) tally.sums ++ filter_map (λ extreme. extreme) tally.extremes)

-- a row of the result that begins at a cut point and isn't ended yet
abbrev pub row_begun : Bool → List Field → ℕ → Segment → Option (ℕ × List Field)
row_begun counted key t segment = if nat_eq segment.living 0 then None else Some (t, key ++ totals counted segment.living segment.totals)

-- the row ends at the next cut point
abbrev pub ended_at : Option (ℕ × List Field) → ℕ → List Row
ended_at None t = []
ended_at (Some row) t = record { end = t; begin = row.0; payload = row.1 } ∷ []

-- the rows of cut points, where one has begun before them
abbrev pub rows_after : Bool → List Field → Option (ℕ × List Field) → List (ℕ × Segment) → List Row
rows_after counted key row [] = []
rows_after counted key row (cut ∷ cuts) = ended_at row cut.0 ++ rows_after counted key (row_begun counted key cut.0 cut.1) cuts

-- the rows of cut points, where none has begun before them
abbrev pub rows_of_cuts : Bool → List Field → List (ℕ × Segment) → List Row
rows_of_cuts counted key cuts = rows_after counted key None cuts

-- sums modulo 2^128, one by one
abbrev pub summed : List ℕ → List ℕ → List ℕ
summed [] ys = []
summed (x ∷ xs) [] = x ∷ xs
summed (x ∷ xs) (y ∷ ys) = ((x + y) % 2 ^ 128) ∷ summed xs ys

-- a number to be added, or to be taken away, modulo 2^128
abbrev pub shifted_by : Bool → ℕ → ℕ
shifted_by true n = n
shifted_by false n = (2 ^ 128 - n) % 2 ^ 128

-- totals to which numbers are added, with these least and greatest fields
abbrev pub tally_shifted : List ℕ → List (Option Field) → Tally → Tally
tally_shifted numbers extremes tally = record { sums = summed tally.sums numbers; extremes = extremes }

-- a row more or a row less, which adds numbers to the sums, and after which these are the least and greatest fields
abbrev pub segment_shifted : Bool → List ℕ → List (Option Field) → Segment → Segment
segment_shifted up numbers extremes s = record { edges = s.edges; living = if up then s.living + 1 else s.living - 1; totals = tally_shifted numbers extremes s.totals }

-- a begin or an end more
abbrev pub edge_raised : Segment → Segment
edge_raised s = record s { edges = s.edges + 1 }

-- the new map has something else at one time alone
abbrev pub IsEdit : ℕ → Option Segment → List (ℕ × Segment) → List (ℕ × Segment) → Type 0
IsEdit t w old new = (u : ℕ) → segment_at u new ≡ cond (is_at (nat_cmp t) u) w (segment_at u old)

-- the first cut point from a time on, or the last number where there is none
pub record IsNextCut (cuts : List (ℕ × Segment)) (t next : ℕ) : Type 0 where
  pub after : t ≤ next
  pub none : (u : ℕ) → t ≤ u → u < next → segment_at u cuts ≡ None
  pub there : (next ≡ 2 ^ 64 - 1) ⊎ IsSome (segment_at next cuts)

-- the last cut point before a time, or that time where there is none
pub record IsLastCut (cuts : List (ℕ × Segment)) (t last : ℕ) : Type 0 where
  pub before : last ≤ t
  pub none : (u : ℕ) → last < u → u < t → segment_at u cuts ≡ None
  pub there : ((last ≡ t) × ((u : ℕ) → u < t → segment_at u cuts ≡ None)) ⊎ (IsSome (segment_at last cuts) × (last < t))

-- how many begins and ends stand at what may be a cut point
abbrev pub edges_in : Option Segment → ℕ
edges_in None = 0
edges_in (Some s) = s.edges

-- how many begins and ends a change may take away at one time
abbrev pub edges_taken : Change → ℕ
edges_taken (Add r) = 0
edges_taken (Cut r e) = 1

-- the first time of the rows of the result that a change may touch, where it is seen at a time: that time, where a cut
-- point stands there that stays, and else the last cut point before it
abbrev pub IsFirstTouched : List (ℕ × Segment) → ℕ → ℕ → ℕ → Type 0
IsFirstTouched cuts t taken first = ((first ≡ t) × (taken < edges_in (segment_at first cuts))) ⊎ IsLastCut cuts t first

-- the last time of them, where a time is the last one that the change touches
abbrev pub IsLastTouched : List (ℕ × Segment) → ℕ → ℕ → ℕ → Type 0
IsLastTouched cuts t taken last = ((last ≡ t) × (taken < edges_in (segment_at last cuts))) ⊎ IsNextCut cuts (t + 1) last

-- a segment has what is valid just before a time
pub record IsCarried (cuts : List (ℕ × Segment)) (t : ℕ) (empty : Tally) (s : Segment) : Type 0 where
  pub one_edge : s.edges ≡ 1
  pub carried : (((u : ℕ) → u < t → segment_at u cuts ≡ None) × (s.living ≡ 0) × (s.totals ≡ empty))
      ⊎ ((p : ℕ) × (before : Segment) × (p < t) × (segment_at p cuts ≡ Some before) × ((u : ℕ) → p < u → u < t → segment_at u cuts ≡ None) × (s.living ≡ before.living) × (s.totals ≡ before.totals))

-- a row of the result is withdrawn where it isn't among others
abbrev pub withdrawn_unless : List Row → Row → List Change
withdrawn_unless rows r = if nat_lt 0 (count_of r rows) then [] else Cut r r.begin ∷ []

-- a row of the result is added where it isn't among others
abbrev pub added_unless : List Row → Row → List Change
added_unless rows r = if nat_lt 0 (count_of r rows) then [] else Add r ∷ []

-- the changes that make the new rows of the old ones, and leave those that are the same
abbrev pub differences : List Row → List Row → List Change
differences olds news = flat_map (withdrawn_unless news) olds ++ flat_map (added_unless olds) news
