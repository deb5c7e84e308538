-- What contracts see of the writer, the reader and a note.
use Rattle.std.specs.Prelude.{◌≡◌, ℕ, Bool, true, List, length, take, drop, fold, Option, Some, None}
use Rattle.logbook.specs.Pages.{Book}
use Rattle.cedr_history.specs.declared.listed.Listed.{Listed}
use Rattle.cedr_history.specs.declared.states.Holding.{Holding}
use Rattle.cedr_history.specs.declared.states.Deed.{Deed}
use Rattle.cedr_history.specs.declared.states.Knows.{Knows}
use Rattle.cedr_history.specs.declared.version.Version.{Version}
use Rattle.cedr_history.specs.declared.seen.Seen.{Seen}
use Rattle.cedr_history.specs.Lists.{nothing, listed, stepped, Extends}
use Rattle.cedr_history.specs.Sights.{Sight, SightBegins}
use Rattle.cedr_history.specs.Versions.{listing}

-- the writer: its history, the published list, that list with all that is pending, and whether it made its last note
pub record Writing : Type 0 where
  pub history : Book
  pub published : Listed
  pub all : Listed
  pub concluded : Bool

-- a reader: its history, the list that it has seen or learnt from a note, the list of the last note if it learnt that,
-- and how many enters were refused
pub record ReaderSeen : Type 0 where
  pub history : Book
  pub seen : Listed
  pub last : Option Listed
  pub refused : ℕ

-- a note: its history, the list that it says, and whether it is the last one
pub record NoteSeen : Type 0 where
  pub history : Book
  pub list : Listed
  pub last : Bool

-- the list that the steps of a beginning leave
abbrev pub list_of : Sight → Listed
list_of s = listed s.steps

-- that list, where there is a beginning
abbrev pub last_list : Option Sight → Option Listed
last_list None = None
last_list (Some s) = Some (list_of s)

-- at most max of the elements, from a place on
abbrev pub part : {A : Type 0} → ℕ → ℕ → List A → List A
part from max xs = take max (drop from xs)

-- what a version holds: its list, and its front
abbrev pub holding : Version → Holding
holding x = record { listed = listing x; front = x.front }

-- what is held once one more step is done: the list with it, and the front that comes with the step
abbrev pub done : Holding → Deed → Holding
done s d = record { listed = stepped s.listed d.step; front = d.front }

-- what the versions hold once all steps are done that a history has
abbrev pub whole : Sight → Holding
whole s = record { listed = listed s.steps; front = s }

-- a pass that knows this history
abbrev pub IsAt : Knows → Book → Type 0
IsAt v b = (v.known ≡ true) × (v.front.book ≡ b)

-- a version with the list of a new history
abbrev pub IsOpening : Version → Sight → Type 0
IsOpening x s = (listing x ≡ nothing) × (x.front ≡ s)

-- these steps after the version leave all that the history has
abbrev pub IsReadyVersion : Version → List Deed → Sight → Type 0
IsReadyVersion x pending all = SightBegins x.front all × (fold done (holding x) pending ≡ whole all)

-- what a read says of the list that it entered
abbrev pub IsSeen : Seen → Listed → Type 0
IsSeen s l = (s.len ≡ length l.changes) × (s.mark ≡ l.mark) × (s.close ≡ l.close)

-- the second front goes on from the first, in one history, and so does its list
abbrev pub IsNextSight : Sight → Sight → Type 0
IsNextSight a b = (a.book ≡ b.book) × Extends (list_of a) (list_of b)
