-- What a port holds, and what it passes on.
use Rattle.std.specs.Prelude.{ℕ, ◌+◌, ◌≤◌, List, [], ◌∷◌, ◌++◌, min, map, filter, Bool, true, false, not, ◌&&◌, nat_lt, if◌then◌else◌, Option, Some, None}
use Rattle.std.specs.List.{flat_map}
use Rattle.cedr_base.specs.declared.time.TheConstants.{FOREVER}
use Rattle.cedr_base.specs.declared.row.Row.{Row}
use Rattle.cedr_base.specs.declared.change.Change.{Change}
use Rattle.cedr_base.specs.declared.change.Change.TheVariants.{Add, Cut}
use Rattle.cedr_base.specs.declared.change.Message.{Message}
use Rattle.cedr_base.specs.declared.change.Message.TheVariants as message
use Rattle.cedr_base.specs.Changes.{all_puts, all_takes}
use Rattle.cedr_base.specs.Messages.{mark_of}
use Rattle.cedr_base.specs.declared.level.Level.{Level}
use Rattle.change_laws.specs.Repairs.{wrapped}
use Rattle.node_laws.specs.Surplus.{less}
use Rattle.node_laws.specs.Lists.{mark_above}
use Rattle.cedr_base.specs.Rows.{in_order}
use Rattle.node_laws.specs.Places.{each_place}
use Rattle.node_laws.specs.Kept.{high_of, kept, kept_of, kept_table}

-- End is among the messages
abbrev pub has_end : List Message → Bool
has_end [] = false
has_end (message.Change c ∷ ms) = has_end ms
has_end (message.Mark t ∷ ms) = has_end ms
has_end (message.End ∷ ms) = true
has_end (message.Broken ∷ ms) = has_end ms

-- the block hasn't passed for a row
abbrev pub is_blocked : Option ℕ → ℕ → Row → Bool
is_blocked None high r = true
is_blocked (Some b) high r = nat_lt high (r.begin + b)

-- a row is held, at the mark and the greatest time, and whether the end came
abbrev pub is_held : Option ℕ → Bool → ℕ → ℕ → Row → Bool
is_held block ended mark high r = not ended && (not (nat_lt r.end mark) && is_blocked block high r)

-- a port holds a row, at its level and after a list of messages
abbrev pub holds : Level → List Message → Row → Bool
holds level ms r = is_held level.block (has_end ms) (mark_of ms) (high_of ms) r

-- the rows that a port holds: those of its kept table that are held
abbrev pub held : Level → List Message → List Row
held level ms = filter (holds level ms) (kept_table level.memory ms)

-- the passed table: the kept table less the held rows
abbrev pub passed_table : Level → List Message → List Row
passed_table level ms = filter (λ r. not (holds level ms r)) (kept_table level.memory ms)

-- the least of a time and the begins of rows
abbrev pub least_begin : ℕ → List Row → ℕ
least_begin t [] = t
least_begin t (r ∷ rs) = min r.begin (least_begin t rs)

-- the front: the guarantee that is passed on
abbrev pub front_at : Bool → ℕ → List Row → ℕ
front_at true mark rows = FOREVER
front_at false mark rows = least_begin mark rows

-- the front after a list of messages
abbrev pub front : Level → List Message → ℕ
front level ms = front_at (has_end ms) (mark_of ms) (held level ms)

-- a change itself, where it is a cut of a row that wasn't held
abbrev pub cuts_passed : Level → List Message → Change → List Change
cuts_passed level before (Add r) = []
cuts_passed level before (Cut r e) = if holds level before r then [] else Cut r e ∷ []

-- the message itself, where it is a kept cut of a row that wasn't held
abbrev pub itself : Level → List Message → Message → List Change
itself level before m = flat_map (cuts_passed level before) (kept_of level.memory before (kept level.memory before) m)

-- the rows that the passed table gained besides, in canonical order
abbrev pub gained : Level → List Message → Message → List Row
gained level before m =
    let own = itself level before m in
    in_order (less (passed_table level (before ++ m ∷ [])) (less (passed_table level before ++ all_puts own) (all_takes own)))

-- the messages that add rows
abbrev pub additions : List Row → List Message
additions rows = map (λ r. message.Change (Add r)) rows

-- what closes the list that is passed on: End for End, and nothing for any other message
abbrev pub closing : Message → List Message
closing (message.Change c) = []
closing (message.Mark t) = []
closing message.End = message.End ∷ []
closing message.Broken = []

-- what a message passes on: its own cut, the gained rows, the front where it rose, and the end
abbrev pub answer : Level → List Message → Message → List Message
answer level before m = wrapped (itself level before m) ++ (additions (gained level before m) ++ (mark_above (front level before) (front level (before ++ m ∷ [])) ++ closing m))

-- what one message passes on
abbrev pub passed_of : Level → List Message → Message → List Message
passed_of level before (message.Change c) = answer level before (message.Change c)
passed_of level before (message.Mark t) = answer level before (message.Mark t)
passed_of level before message.End = answer level before message.End
passed_of level before message.Broken = message.Broken ∷ []

-- what a port's list passes on, message by message
unfoldable pub pass : Level → List Message → List Message
pass level ms = each_place (passed_of level) ms

-- the block isn't over the memory
abbrev pub IsWithin : Option ℕ → Option ℕ → Type 0
IsWithin block None = Unit {0}
IsWithin None (Some m) = ⊥
IsWithin (Some b) (Some m) = b ≤ m

-- a level's block isn't over its memory
abbrev pub HasBlockWithin : Level → Type 0
HasBlockWithin level = IsWithin level.block level.memory

-- the rows that additions add
abbrev pub added : List Change → List Row
added [] = []
added (Add r ∷ cs) = r ∷ added cs
added (Cut r e ∷ cs) = added cs

-- no change is a cut
abbrev pub HasNoCut : List Change → Type 0
HasNoCut [] = Unit {0}
HasNoCut (Add r ∷ cs) = HasNoCut cs
HasNoCut (Cut r e ∷ cs) = ⊥
