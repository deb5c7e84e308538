-- Rows of events under their ids, and the ends of them in order of time.
use Rattle.std.specs.Prelude.{ℕ, ◌≡◌, ◌<◌, ◌≤◌, List, Bool, true, false, ◌&&◌, Option, Some, None, nat_lt, nat_eq, if◌then◌else◌}
use Rattle.std.specs.List.{list_any}
use Rattle.std.specs.BTreeMap.{is_at}
use Rattle.std.specs.Ordering.{nat_cmp, ordering_then}
use Rattle.std.specs.declared.cmp.Ordering.{Ordering}
use Rattle.cedr_base.specs.declared.row.Row.{Row}
use Rattle.open_events.specs.declared.ending.Ending.{Ending}

-- ---- the row of an id

-- a row ends at this time
abbrev pub ends_at : ℕ → Option Row → Bool
ends_at end None = false
ends_at end (Some row) = nat_eq row.end end

-- a row that doesn't end before a time
abbrev pub still_open : ℕ → Option Row → Option Row
still_open time None = None
still_open time (Some row) = if nat_lt row.end time then None else Some row

-- ---- endings

-- endings compare by their times, then by their ids
abbrev pub event_end_cmp : Ending → Ending → Ordering
event_end_cmp a b = ordering_then (nat_cmp a.end b.end) (nat_cmp a.id b.id)

-- the event of this id ends at this time
abbrev pub has_ending : List Ending → ℕ → ℕ → Bool
has_ending endings end id = list_any (is_at (event_end_cmp (record { end = end; id = id }))) endings

-- the ending of an id at a time is there or isn't, and each other one is as before
abbrev pub PlacesEnd : List Ending → List Ending → ℕ → ℕ → Bool → Type 0
PlacesEnd old new end id there = (t : ℕ) (other : ℕ) → has_ending new t other ≡ (if nat_eq end t && nat_eq id other then there else has_ending old t other)

-- the first ending was taken, which is before a time
pub record IsFirstEndTaken (old new : List Ending) (time : ℕ) (first : Ending) : Type 0 where
  pub there : has_ending old first.end first.id ≡ true
  pub before : first.end < time
  pub taken : PlacesEnd old new first.end first.id false

-- no ending is before a time
abbrev pub NoEndBefore : List Ending → ℕ → Type 0
NoEndBefore endings time = (t : ℕ) (id : ℕ) → has_ending endings t id ≡ true → time ≤ t
