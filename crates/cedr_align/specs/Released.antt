-- What is released from the rows that wait, and what is remembered of it.
use Rattle.std.specs.Prelude.{ℕ, ◌≡◌, List, [], ◌∷◌, ◌++◌, not, filter, Bool, ◌&&◌, nat_eq, nat_lt, false, if◌then◌else◌, Option, Some, None}
use Rattle.cedr_base.specs.declared.row.Row.{Row}
use Rattle.cedr_base.specs.declared.change.Change.{Change}
use Rattle.cedr_base.specs.declared.change.Change.TheVariants.{Add, Cut}
use Rattle.cedr_base.specs.Rows.{count_of, SameRows}
use Rattle.cedr_base.specs.Changes.{all_puts, all_takes}
use Rattle.node_laws.specs.declared.forgotten.Cause.{Cause}
use Rattle.node_laws.specs.declared.forgotten.Cause.TheVariants.{Late, Orphan}
use Rattle.node_laws.specs.Kept.{is_late}
use Rattle.cedr_base.specs.declared.change.Message.{Message}
use Rattle.node_laws.specs.Surplus.{Ascend}
use Rattle.node_laws.specs.Pass.{front_at, additions}
use Rattle.node_laws.specs.Lists.{mark_above}
use Rattle.change_laws.specs.Repairs.{wrapped}

-- the rows that needn't wait, in canonical order
pub record IsReleased (stays : Row → Bool) (rows released : List Row) : Type 0 where
  pub ascend : Ascend released
  pub same : SameRows released (filter (λ r. not (stays r)) rows)

-- the row of a cut is neither held nor among the passed ones
abbrev pub is_missing : List Row → List Row → Change → Bool
is_missing held passed (Add r) = false
is_missing held passed (Cut r e) = nat_eq (count_of r held) 0 && nat_eq (count_of r passed) 0

-- why a change is forgotten, if it is: without a limit of the memory none is
abbrev pub cause_at : Option ℕ → ℕ → List Row → List Row → Change → Option Cause
cause_at None high held passed c = None
cause_at (Some m) high held passed c = if is_late (Some m) high c then Some Late else (if is_missing held passed c then Some Orphan else None)

-- a change that is passed on itself: the cut of a row that isn't held
abbrev pub own_of : List Row → Change → List Change
own_of held (Add r) = []
own_of held (Cut r e) = if nat_lt 0 (count_of r held) then [] else Cut r e ∷ []

-- a change of the held rows: an addition, or the cut of a row that is held
abbrev pub other_of : List Row → Change → List Change
other_of held (Add r) = Add r ∷ []
other_of held (Cut r e) = if nat_lt 0 (count_of r held) then Cut r e ∷ [] else []

-- changes were applied to the passed rows, where any are remembered
abbrev pub AreApplied : Option ℕ → List Change → List Row → List Row → Type 0
AreApplied None cs passed passed' = Unit {0}
AreApplied (Some m) cs passed passed' = SameRows (passed' ++ all_takes cs) (passed ++ all_puts cs)

-- rows were released and passed on, those of them and of the passed ones that must be are remembered, and then a mark
-- was passed on where the front is above another one
pub record IsSettled (stays remembers : Row → Bool) (ended : Bool) (mark before : ℕ) (held passed : List Row) (out : List Message) (held' passed' : List Row) (out' : List Message) : Type 0 where
  pub released : List Row
  pub are : IsReleased stays held released
  pub held_are : SameRows held' (filter stays held)
  pub passed_are : SameRows passed' (filter remembers (passed ++ released))
  pub out_is : out' ≡ out ++ (additions released ++ mark_above before (front_at ended mark held'))

-- no row waits, and a change is a cut, or an addition of a row that needn't wait
abbrev pub GoesThrough : (Row → Bool) → List Row → Change → Type 0
GoesThrough stays held (Add r) = (held ≡ []) × (stays r ≡ false)
GoesThrough stays held (Cut r e) = held ≡ []

-- A change was applied to the rows that wait, or else to those that passed, and passed on. That gives the rows and the
-- messages in between. Then the rows that needn't wait any longer passed, and a mark where the front is above the one
-- before the change.
pub record IsKeptAndSettled (memory : Option ℕ) (stays remembers : Row → Bool) (ended : Bool) (mark : ℕ) (c : Change) (held passed : List Row) (out : List Message) (held' passed' : List Row) (out' : List Message) : Type 0 where
  pub held_between : List Row
  pub passed_between : List Row
  pub out_between : List Message
  pub held_moved : SameRows (held_between ++ all_takes (other_of held c)) (held ++ all_puts (other_of held c))
  pub passed_moved : AreApplied memory (own_of held c) passed passed_between
  pub out_is : out_between ≡ out ++ wrapped (own_of held c)
  pub settled : IsSettled stays remembers ended mark (front_at ended mark held) held_between passed_between out_between held' passed' out'
