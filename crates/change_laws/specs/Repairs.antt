-- Lists of changes that repair a table.
use Rattle.std.specs.Prelude.{ℕ, ◌≡◌, ◌≤◌, List, [], ◌∷◌, ◌++◌, min, max, map}
use Rattle.cedr_base.specs.declared.row.Row.{Row}
use Rattle.cedr_base.specs.declared.change.Change.{Change}
use Rattle.cedr_base.specs.declared.change.Message.{Message}
use Rattle.cedr_base.specs.declared.change.Message.TheVariants as message
use Rattle.cedr_base.specs.Rows.{count_of, SameRows}
use Rattle.cedr_base.specs.Changes.{sync_of, puts, takes, all_puts, all_takes, count_after, MayFollow}

-- one table is the other one with a change's delta
pub record IsMoved (change : Change) (old new : List Row) : Type 0 where
  pub sums : SameRows (new ++ takes change) (old ++ puts change)

-- the changes lead from one table to another: the new one is the old one with all their deltas
pub record Leads (old : List Row) (cs : List Change) (new : List Row) : Type 0 where
  pub sums : SameRows (new ++ all_takes cs) (old ++ all_puts cs)

-- each change may follow those before it
abbrev pub AreLegal : List Row → List Change → List Change → Type 0
AreLegal old before [] = Unit {0}
AreLegal old before (c ∷ cs) = MayFollow old before c × AreLegal old (before ++ c ∷ []) cs

-- no change is seen before a time
abbrev pub AllFrom : ℕ → List Change → Type 0
AllFrom t [] = Unit {0}
AllFrom t (c ∷ cs) = (t ≤ sync_of c) × AllFrom t cs

-- between the changes each row's count stays between its old and its new one
pub record StaysBetween (old : List Row) (cs : List Change) (new : List Row) : Type 0 where
  pub least : (before after : List Change) → cs ≡ before ++ after → (r : Row) → min (count_of r old) (count_of r new) ≤ count_after old before r
  pub most : (before after : List Change) → cs ≡ before ++ after → (r : Row) → count_after old before r ≤ max (count_of r old) (count_of r new)

-- the changes repair a table: they are legal one after the other from the old one, lead to the new one, aren't
-- seen before a time, and make no detour
pub record Repair (old new : List Row) (t : ℕ) (cs : List Change) : Type 0 where
  pub legal : AreLegal old [] cs
  pub leads : Leads old cs new
  pub from : AllFrom t cs
  pub between : StaysBetween old cs new

-- the messages that bring changes
abbrev pub wrapped : List Change → List Message
wrapped cs = map (λ c. message.Change c) cs
