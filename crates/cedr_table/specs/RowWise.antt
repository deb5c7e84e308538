-- Operators whose result has, for each row of their port, one row or none.
use Rattle.std.specs.Prelude.{ℕ, ◌≡◌, ◌≢◌, ◌<◌, ◌≤◌, ◌⊎◌, List, length, [], ◌∷◌, ◌++◌, Bool, true, false, ◌&&◌, Option, Some, None, nat_lt, nat_eq, if◌then◌else◌}
use Rattle.std.specs.List.{flat_map}
use Rattle.cedr_base.specs.declared.time.TheConstants.{FOREVER}
use Rattle.cedr_base.specs.declared.field.Field.{Field}
use Rattle.cedr_base.specs.declared.row.Row.{Row}
use Rattle.cedr_base.specs.declared.change.Change.{Change}
use Rattle.cedr_base.specs.declared.change.Change.TheVariants.{Add, Cut}
use Rattle.cedr_base.specs.declared.interval.Interval.{Interval}
use Rattle.cedr_table.specs.Operators.{Tables, Meaning, table_at, mark_at}

-- One port. Each row makes its rows of the result by itself, and the bound is made of the port's mark. Nothing
-- is kept between changes.
abbrev pub row_wise : (Row → List Row) → (ℕ → ℕ) → Meaning
row_wise image guarantee = record {
  ports = 1;
  result = λ tables. flat_map image (table_at tables 0);
  bound = λ _ marks. guarantee (mark_at marks 0);
  may_hold = λ _ _ _ _. false;
  echoes = false;
  stateless = true;
}

-- the interval isn't empty
abbrev pub lives : Interval → Bool
lives life = nat_lt life.begin life.end

-- the row of an interval and a payload
abbrev pub row_during : Interval → List Field → Row
row_during life payload = record { end = life.end; begin = life.begin; payload = payload }

-- the row of an interval and a payload: none where the interval is empty, or where there is no payload
abbrev pub made : Interval → Option (List Field) → List Row
made life None = []
made life (Some payload) = if lives life then row_during life payload ∷ [] else []

-- the interval is one that a row may have
pub record IsLife (begin end : ℕ) : Type 0 where
  pub lives : begin < end
  pub begins : begin < FOREVER
  pub ends : end ≤ FOREVER

-- a row keeps its begin and doesn't grow, and where it is cut the cut isn't seen before a time
pub record Shortens (t : ℕ) (old new : Interval) : Type 0 where
  pub same_begin : new.begin ≡ old.begin
  pub within : new.end ≤ old.end
  pub from : new.end < old.end → t ≤ new.end

-- a row gets another begin, and neither the old one nor the new one is before a time
pub record Moves (t : ℕ) (old new : Interval) : Type 0 where
  pub other_begin : new.begin ≢ old.begin
  pub old_from : t ≤ old.begin
  pub new_from : t ≤ new.begin

-- what may become of a row of the result where its row of the port is cut
abbrev pub MayBecome : ℕ → Interval → Interval → Type 0
MayBecome t old new = Shortens t old new ⊎ Moves t old new

-- the change by which a row of the result gives way to a shorter one
abbrev pub shortened : List Field → Interval → Interval → List Change
shortened payload old new = if nat_lt new.end old.end then Cut (row_during old payload) new.end ∷ [] else []

-- the change that takes a row from the result
abbrev pub withdrawn : List Field → Interval → List Change
withdrawn payload old = if lives old then Cut (row_during old payload) old.begin ∷ [] else []

-- the change that adds a row to the result
abbrev pub row_added : List Field → Interval → List Change
row_added payload new = if lives new then Add (row_during new payload) ∷ [] else []

-- the changes that put one row of the result in another's place
abbrev pub replaced : Option (List Field) → Interval → Interval → List Change
replaced None old new = []
replaced (Some payload) old new =
    if lives old && (lives new && nat_eq old.begin new.begin)
    then shortened payload old new
    else withdrawn payload old ++ row_added payload new

-- the interval of which nothing is left
abbrev pub emptied : Interval → Interval
emptied life = record { begin = life.begin; end = life.begin }

-- what is made of a row's interval once the row is cut
abbrev pub life_after : (ℕ → ℕ → Interval) → Row → ℕ → Interval
life_after life r end = if nat_lt r.begin end then life r.begin end else emptied (life r.begin r.end)

-- the changes that answer a change
abbrev pub answer_to : (ℕ → ℕ → Interval) → (List Field → Option (List Field)) → Change → List Change
answer_to life payload (Add r) = replaced (payload r.payload) (emptied (life r.begin r.end)) (life r.begin r.end)
answer_to life payload (Cut r end) = replaced (payload r.payload) (life r.begin r.end) (life_after life r end)

-- one port, and parameters in range
pub record StandsOnOne (in_range : Type 0) (tables : Tables) (marks : List ℕ) : Type 0 where
  pub range : in_range
  pub table : length tables ≡ 1
  pub mark : length marks ≡ 1
