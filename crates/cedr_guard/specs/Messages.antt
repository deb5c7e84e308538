-- The messages of accepted lines: what they become for the operators after a source.
use Rattle.std.specs.Prelude.{ℕ, ◌≡◌, ◌≤◌, List, [], ◌∷◌, ◌++◌, length, nat_lt, if◌then◌else◌, Option, None, Some}
use Rattle.cedr_base.specs.declared.row.Row.{Row}
use Rattle.cedr_base.specs.declared.change.Change.TheVariants.{Add, Cut}
use Rattle.cedr_base.specs.declared.change.Message.{Message}
use Rattle.cedr_base.specs.declared.change.Message.TheVariants as message
use Rattle.cedr_text.specs.declared.event_line.EventLine.{EventLine}
use Rattle.cedr_text.specs.declared.event_line.EventLine.TheVariants.{Insert, Retract, Revise, Promise}
use Rattle.cedr_guard.specs.Judging.{guarantee_of, event_with, row_lives}

-- a retraction cuts its event's row as that is then
abbrev pub cut_of : Option Row → ℕ → List Message
cut_of None end = []
cut_of (Some row) end = message.Change (Cut row end) ∷ []

-- a revision cuts its event's row to its begin, where the event isn't withdrawn
abbrev pub withdrawal_of : Option Row → List Message
withdrawal_of None = []
withdrawal_of (Some row) = if row_lives row then message.Change (Cut row row.begin) ∷ [] else []

-- A line's messages after the lines before it. A revision has its event's row cut before the new one is added; a
-- guarantee that isn't above the earlier ones has none.
abbrev pub line_messages : List EventLine → EventLine → List Message
line_messages before (Insert id row) = message.Change (Add row) ∷ []
line_messages before (Retract id end) = cut_of (event_with id before) end
line_messages before (Revise id row) = withdrawal_of (event_with id before) ++ message.Change (Add row) ∷ []
line_messages before (Promise time) = if nat_lt (guarantee_of before) time then message.Mark time ∷ [] else []

-- the messages of lines that come after others, one after the other
abbrev pub messages_behind : List EventLine → List EventLine → List Message
messages_behind before [] = []
messages_behind before (line ∷ lines) = line_messages before line ++ messages_behind (before ++ line ∷ []) lines

-- ---- line by line

-- the messages of lines that come after others: one entry for each line
abbrev pub entries_behind : List EventLine → List EventLine → List (List Message)
entries_behind before [] = []
entries_behind before (line ∷ lines) = line_messages before line ∷ entries_behind (before ++ line ∷ []) lines

-- the messages that entries hold
abbrev pub messages_in : List (List Message) → List Message
messages_in [] = []
messages_in (entry ∷ entries) = entry ++ messages_in entries

-- these messages were appended, at most two
pub record Appended (before after : List Message) : Type 0 where
  pub added : List Message
  pub all : after ≡ before ++ added
  pub few : length added ≤ 2
