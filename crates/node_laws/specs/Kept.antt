-- What a port with a memory keeps and forgets.
use Rattle.std.specs.Prelude.{ℕ, ◌≡◌, ◌+◌, ◌≤◌, List, [], ◌∷◌, ◌++◌, map, max, Bool, false, nat_lt, nat_eq, if◌then◌else◌, Option, Some, None}
use Rattle.cedr_base.specs.declared.row.Row.{Row}
use Rattle.cedr_base.specs.declared.change.Change.{Change}
use Rattle.cedr_base.specs.declared.change.Change.TheVariants.{Add, Cut}
use Rattle.cedr_base.specs.declared.change.Message.{Message}
use Rattle.cedr_base.specs.declared.change.Message.TheVariants as message
use Rattle.cedr_base.specs.Rows.{count_of}
use Rattle.cedr_base.specs.Changes.{sync_of, changed_row}
use Rattle.cedr_base.specs.Messages.{changes_of}
use Rattle.node_laws.specs.declared.forgotten.Cause.{Cause}
use Rattle.node_laws.specs.declared.forgotten.Cause.TheVariants.{Late, Orphan}
use Rattle.node_laws.specs.declared.forgotten.Forgotten.{Forgotten}
use Rattle.node_laws.specs.Surplus.{table_of}
use Rattle.node_laws.specs.Places.{each_place}

-- the greatest sync or mark, 0 where there is none
abbrev pub high_of : List Message → ℕ
high_of [] = 0
high_of (message.Change c ∷ ms) = max (sync_of c) (high_of ms)
high_of (message.Mark t ∷ ms) = max t (high_of ms)
high_of (message.End ∷ ms) = high_of ms
high_of (message.Broken ∷ ms) = high_of ms

-- a change is late where it is seen more than the memory before the greatest time
abbrev pub is_late : Option ℕ → ℕ → Change → Bool
is_late None high c = false
is_late (Some m) high c = nat_lt (sync_of c + m) high

-- a cut is an orphan where its row isn't in the table of what was kept
abbrev pub is_orphan : List Change → Change → Bool
is_orphan kept (Add r) = false
is_orphan kept (Cut r e) = nat_eq (count_of r (table_of kept)) 0

-- why a change is forgotten, if it is
abbrev pub cause_of : Option ℕ → ℕ → List Change → Change → Option Cause
cause_of memory high kept c = if is_late memory high c then Some Late else (if is_orphan kept c then Some Orphan else None)

-- a change itself where there is no cause to forget it, and else nothing
abbrev pub kept_alone : Option Cause → Change → List Change
kept_alone None c = c ∷ []
kept_alone (Some cause) c = []

-- what is kept of a message, after the messages before it and what was kept of them
abbrev pub kept_of : Option ℕ → List Message → List Change → Message → List Change
kept_of memory before kept (message.Change c) = kept_alone (cause_of memory (high_of before) kept c) c
kept_of memory before kept (message.Mark t) = []
kept_of memory before kept message.End = []
kept_of memory before kept message.Broken = []

-- what was kept of some messages, and then what is kept of those that come after them
abbrev pub kept_behind : Option ℕ → List Message → List Change → List Message → List Change
kept_behind memory before kept [] = kept
kept_behind memory before kept (m ∷ ms) = kept_behind memory (before ++ m ∷ []) (kept ++ kept_of memory before kept m) ms

-- the changes that are neither late nor orphans, in order
unfoldable pub kept : Option ℕ → List Message → List Change
kept memory ms = kept_behind memory [] [] ms

-- a change where there is a cause to forget it, with that cause and the greatest time, and else nothing
abbrev pub forgotten_alone : Option Cause → ℕ → Change → List Forgotten
forgotten_alone None high c = []
forgotten_alone (Some cause) high c = record { change = c; cause = cause; high = high } ∷ []

-- what is forgotten of a message after others, with its cause and the greatest time before it
abbrev pub forgotten_of : Option ℕ → List Message → Message → List Forgotten
forgotten_of memory before (message.Change c) = forgotten_alone (cause_of memory (high_of before) (kept memory before) c) (high_of before) c
forgotten_of memory before (message.Mark t) = []
forgotten_of memory before message.End = []
forgotten_of memory before message.Broken = []

-- the late changes and the orphans, in order
abbrev pub forgot : Option ℕ → List Message → List Forgotten
forgot memory ms = each_place (forgotten_of memory) ms

-- the changes that were forgotten
abbrev pub changes_in : List Forgotten → List Change
changes_in listed = map (λ (f : Forgotten). f.change) listed

-- the kept table
abbrev pub kept_table : Option ℕ → List Message → List Row
kept_table memory ms = table_of (kept memory ms)

-- so recent a row that nothing of it is forgotten
abbrev pub IsRecent : Option ℕ → ℕ → Row → Type 0
IsRecent None high r = Unit {0}
IsRecent (Some m) high r = high ≤ r.begin + m

-- of each forgotten change the row begins more than the memory before the greatest time
abbrev pub AreOld : Option ℕ → List Forgotten → Type 0
AreOld memory [] = Unit {0}
AreOld memory (f ∷ fs) = (IsRecent memory f.high (changed_row f.change) → ⊥) × AreOld memory fs

-- what is kept and what came agree on each row that is recent
abbrev pub AgreeOnRecent : Option ℕ → List Message → Type 0
AgreeOnRecent memory ms = (r : Row) → IsRecent memory (high_of ms) r → count_of r (kept_table memory ms) ≡ count_of r (table_of (changes_of ms))
