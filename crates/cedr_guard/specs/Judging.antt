-- An event line, judged against the lines before it.
use Rattle.std.specs.Prelude.{ℕ, ◌≡◌, ◌==◌, ◌&&◌, Bool, List, [], ◌∷◌, ◌++◌, min, max, nat_le, nat_lt, if◌then◌else◌, Option, None, Some, is_some, unwrap_or}
use Rattle.cedr_base.specs.declared.row.Row.{Row}
use Rattle.cedr_text.specs.declared.event_line.EventLine.{EventLine}
use Rattle.cedr_text.specs.declared.event_line.EventLine.TheVariants.{Insert, Retract, Revise, Promise}
use Rattle.cedr_text.specs.declared.fault.LineFault.{LineFault}
use Rattle.cedr_text.specs.declared.fault.LineFault.TheVariants.{KnownId, UnknownId, BadEnd, BeforeGuarantee}
use Rattle.cedr_text.specs.Reading.{IsEvent}

-- ---- what lines say together

-- the greatest guarantee, and 0 where there is none
abbrev pub guarantee_of : List EventLine → ℕ
guarantee_of [] = 0
guarantee_of (Insert id row ∷ lines) = guarantee_of lines
guarantee_of (Retract id end ∷ lines) = guarantee_of lines
guarantee_of (Revise id row ∷ lines) = guarantee_of lines
guarantee_of (Promise time ∷ lines) = max time (guarantee_of lines)

-- the new ends that the retractions of an id give
abbrev pub ends_of : ℕ → List EventLine → List ℕ
ends_of id [] = []
ends_of id (Insert other row ∷ lines) = ends_of id lines
ends_of id (Retract other end ∷ lines) = if other == id then end ∷ ends_of id lines else ends_of id lines
ends_of id (Revise other row ∷ lines) = ends_of id lines
ends_of id (Promise time ∷ lines) = ends_of id lines

-- the least of an end and others
abbrev pub least_end : ℕ → List ℕ → ℕ
least_end end [] = end
least_end end (other ∷ others) = min other (least_end end others)

-- the row of a version of an id with the least end among its own and those of the id's retractions in the lines
-- behind it
abbrev pub row_after : ℕ → Row → List EventLine → Row
row_after id row lines = record row { end = least_end row.end (ends_of id lines) }

-- The row of the event with this id after the lines: that of its last version, with the least end among its own and
-- those of the retractions since. The versions of an id are its insertion and its revisions: where the lines behind
-- one have a later one, that one counts.
abbrev pub event_with : ℕ → List EventLine → Option Row
event_with id [] = None
event_with id (Insert other row ∷ lines) = if other == id then Some (unwrap_or (event_with id lines) (row_after id row lines)) else event_with id lines
event_with id (Retract other end ∷ lines) = event_with id lines
event_with id (Revise other row ∷ lines) = if other == id then Some (unwrap_or (event_with id lines) (row_after id row lines)) else event_with id lines
event_with id (Promise time ∷ lines) = event_with id lines

-- a row lives: its valid interval isn't empty
abbrev pub row_lives : Row → Bool
row_lives row = nat_lt row.begin row.end

-- ---- a line against the lines before it

-- the sync is below the guarantee
abbrev pub guarantee_fault : ℕ → ℕ → Option LineFault
guarantee_fault sync mark = if nat_lt sync mark then Some (BeforeGuarantee sync mark) else None

-- a retraction's event, its new end, and the guarantee
abbrev pub retraction_fault : Option Row → ℕ → ℕ → Option LineFault
retraction_fault None end mark = Some UnknownId
retraction_fault (Some row) end mark = if nat_le row.begin end && nat_lt end row.end then guarantee_fault end mark else Some (BadEnd row.begin row.end)

-- a revision's sync: its begin, or that of its event's row where that is less and the event isn't withdrawn
abbrev pub revised_sync : Row → ℕ → ℕ
revised_sync row begin = if row_lives row then min row.begin begin else begin

-- a revision's event, its begin, and the guarantee
abbrev pub revision_fault : Option Row → ℕ → ℕ → Option LineFault
revision_fault None begin mark = Some UnknownId
revision_fault (Some row) begin mark = guarantee_fault (revised_sync row begin) mark

-- the least fault that a line has after these, if it has one
abbrev pub fault_behind : List EventLine → EventLine → Option LineFault
fault_behind before (Insert id row) = if is_some (event_with id before) then Some KnownId else guarantee_fault row.begin (guarantee_of before)
fault_behind before (Retract id end) = retraction_fault (event_with id before) end (guarantee_of before)
fault_behind before (Revise id row) = revision_fault (event_with id before) row.begin (guarantee_of before)
fault_behind before (Promise time) = None

-- ---- accepted lines

-- a line after others that it agrees with
pub record IsAccepted (before : List EventLine) (line : EventLine) : Type 0 where
  pub event : IsEvent line
  pub faultless : fault_behind before line ≡ None

-- each of the lines is accepted after some others and those before it
abbrev pub AreAcceptedBehind : List EventLine → List EventLine → Type 0
AreAcceptedBehind before [] = Unit {0}
AreAcceptedBehind before (line ∷ lines) = IsAccepted before line × AreAcceptedBehind (before ++ line ∷ []) lines

-- each of the lines is accepted after those before it
abbrev pub AreAccepted : List EventLine → Type 0
AreAccepted lines = AreAcceptedBehind [] lines
