-- Lists of messages: the table and the mark that they make, and which are legal.
use Rattle.std.specs.Prelude.{ℕ, ◌<◌, ◌≤◌, List, [], ◌∷◌, ◌++◌, max}
use Rattle.cedr_base.specs.declared.time.TheConstants.{FOREVER}
use Rattle.cedr_base.specs.declared.row.Row.{Row}
use Rattle.cedr_base.specs.declared.change.Change.{Change}
use Rattle.cedr_base.specs.declared.change.Message.{Message}
use Rattle.cedr_base.specs.declared.change.Message.TheVariants as message
use Rattle.cedr_base.specs.Rows.{SameRows}
use Rattle.cedr_base.specs.Changes.{sync_of, all_puts, all_takes, MayFollow}

-- the changes among the messages
abbrev pub changes_of : List Message → List Change
changes_of [] = []
changes_of (message.Change c ∷ ms) = c ∷ changes_of ms
changes_of (message.Mark t ∷ ms) = changes_of ms
changes_of (message.End ∷ ms) = changes_of ms
changes_of (message.Broken ∷ ms) = changes_of ms

-- the rows are the table of the messages: the sum of the deltas of their changes
pub record IsTableOf (ms : List Message) (rows : List Row) : Type 0 where
  pub sums : SameRows (rows ++ all_takes (changes_of ms)) (all_puts (changes_of ms))

-- the greatest mark among the messages, and 0 where there is none
abbrev pub mark_of : List Message → ℕ
mark_of [] = 0
mark_of (message.Change c ∷ ms) = mark_of ms
mark_of (message.Mark t ∷ ms) = max t (mark_of ms)
mark_of (message.End ∷ ms) = mark_of ms
mark_of (message.Broken ∷ ms) = mark_of ms

-- neither End nor Broken is among the messages
abbrev pub IsOpen : List Message → Type 0
IsOpen [] = Unit {0}
IsOpen (message.Change c ∷ ms) = IsOpen ms
IsOpen (message.Mark t ∷ ms) = IsOpen ms
IsOpen (message.End ∷ ms) = ⊥
IsOpen (message.Broken ∷ ms) = ⊥

-- a message agrees with those before it: a retraction's row is in their table, a change isn't seen
-- before their mark, and a mark is a time and rises
abbrev pub Suits : List Message → Message → Type 0
Suits before (message.Change c) = MayFollow [] (changes_of before) c × (mark_of before ≤ sync_of c)
Suits before (message.Mark t) = (mark_of before < t) × (t ≤ FOREVER)
Suits before message.End = Unit {0}
Suits before message.Broken = Unit {0}

-- a message may come after these: none of them is the last, and it agrees with them
abbrev pub MayCome : List Message → Message → Type 0
MayCome before m = IsOpen before × Suits before m

-- each of the messages may come after some others and those before it
abbrev pub IsLegalBehind : List Message → List Message → Type 0
IsLegalBehind before [] = Unit {0}
IsLegalBehind before (m ∷ ms) = MayCome before m × IsLegalBehind (before ++ m ∷ []) ms

-- a list of messages is legal: each may come after those before it
abbrev pub IsLegal : List Message → Type 0
IsLegal ms = IsLegalBehind [] ms
