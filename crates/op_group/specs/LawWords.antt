-- Words of the proofs of these laws.
use Rattle.std.specs.Prelude.{ℕ, ◌≡◌, ◌<◌, ◌≤◌, ◌⊎◌, List, [], ◌∷◌, Option, None, Some, cond, nat_eq, sum_by, length, max}
use Rattle.cedr_base.specs.Changes.{sync_of}
use Rattle.cedr_base.specs.Rows.{count_of}
use Rattle.cedr_base.specs.declared.change.Change.{Change}
use Rattle.cedr_base.specs.declared.change.Change.TheVariants.{Add, Cut}
use Rattle.cedr_base.specs.declared.field.Field.{Field}
use Rattle.cedr_base.specs.declared.row.Row.{Row}
use Rattle.op_group.specs.Groups.{Grouping, grouped, key_of, rows_of, same_payload}
use Rattle.op_group.specs.Tallies.{Tally}
use Rattle.op_group.specs.Measures.{part_at, edges_of, living_of, tally_of}
use Rattle.op_group.specs.declared.segment.Segment.{Segment}
use Rattle.op_group.specs.declared.segment.Totalled.{Totalled}
use Rattle.cedr_living.specs.Lives.{Living}
use Rattle.op_group.specs.Bags.{field_lives, indexed}

-- a row is open, and the bound is its begin
pub record IsLeastOpen (mark : ℕ) (rows : List Row) (bound : ℕ) : Type 0 where
  pub row : Row
  pub there : 0 < count_of row rows
  pub less : row.begin < mark
  pub within : mark ≤ row.end
  pub is : bound ≡ row.begin

-- the last time that a change touches
abbrev pub last_time : Change → ℕ
last_time (Add r) = r.end
last_time (Cut r e) = r.end

-- a change doesn't touch a weight
abbrev pub Untouched : (Row → ℕ) → Change → Type 0
Untouched w (Add a) = w a ≡ 0
Untouched w (Cut a e) = (a.begin < e → w a ≡ w (record a { end = e })) × (e ≤ a.begin → w a ≡ 0)

-- the weight of a row in the group of a key, and 0 for a row of another group
abbrev pub keyed : Grouping → List Field → (Row → ℕ) → Row → ℕ
keyed g key w x = cond (same_payload key (key_of g x)) (w x) 0

-- a time before a change is seen, or after the last time that it touches
abbrev pub Outside : Change → ℕ → Type 0
Outside c t = (t < sync_of c) ⊎ (last_time c < t)

-- a time before a change is seen, or no earlier than the last time that it touches
abbrev pub Aside : Change → ℕ → Type 0
Aside c t = (t < sync_of c) ⊎ (last_time c ≤ t)

-- a row of the result begins at a time, and doesn't end before a mark
pub record IsBegun (g : Grouping) (rows : List Row) (p mark : ℕ) : Type 0 where
  pub row : Row
  pub there : 0 < count_of row (grouped g rows)
  pub begins : row.begin ≡ p
  pub within : mark ≤ row.end

-- at a time the same begins and ends stand in a group of two tables, and as many rows are valid, with the same totals
pub record SameAt (g : Grouping) (key : List Field) (xs ys : List Row) (t : ℕ) : Type 0 where
  pub edges : edges_of (rows_of g key xs) t ≡ edges_of (rows_of g key ys) t
  pub living : living_of (rows_of g key xs) t ≡ living_of (rows_of g key ys) t
  pub totals : tally_of g.totalled (rows_of g key xs) t ≡ tally_of g.totalled (rows_of g key ys) t

-- what is shown at a time
abbrev pub shown_as : ℕ → ℕ → Tally → Option Segment
shown_as edges living tally = cond (nat_eq edges 0) None (Some (record { edges = edges; living = living; totals = tally }))

-- what a row's fields weigh
abbrev pub row_weight : Totalled → (Living → ℕ) → Row → ℕ
row_weight asked w r = sum_by w (field_lives (indexed asked) r)

-- what a field weighs, where it is there
abbrev pub weighed : (Field → ℕ) → Option Field → ℕ
weighed w None = 0
weighed w (Some f) = w f

-- a sum over payloads is the same
abbrev pub SamePayloads : List Row → List Row → Type 0
SamePayloads xs ys = (w : List Field → ℕ) → sum_by (λ (r : Row). w r.payload) xs ≡ sum_by (λ (r : Row). w r.payload) ys

-- a sum over the payloads of the rows that are valid at a time is the same
abbrev pub SameAlive : ℕ → List Row → List Row → Type 0
SameAlive t xs ys = (w : List Field → ℕ) → sum_by (part_at (λ (r : Row). w r.payload) t) xs ≡ sum_by (part_at (λ (r : Row). w r.payload) t) ys

-- the length of the longest payload
abbrev pub longest_payload : List Row → ℕ
longest_payload [] = 0
longest_payload (r ∷ rows) = max (length r.payload) (longest_payload rows)
