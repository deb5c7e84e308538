-- A guard that forgets stands for what is remembered of its lines with one more.
use Rattle.std.proofs.Common.{◌≡◌, ℕ, suc, ◌+◌, ◌<◌, ◌≤◌, List, [], ◌∷◌, ◌++◌, Bool, true, false, cond, eqb, ◌&&◌, not, length, get_or, take, min, Option, None, Some, refl, ap, sym, ◌∙◌, subst, arith, append_assoc, append-nil}
use Rattle.std.specs.Prelude.{Result, Ok, Err, OnErr, option_map, is_some, nat_lt, nat_le, nat_eq, AllPairs}
use Rattle.std.proofs.lemmas.Bool.{eqb-true, eq-eqb, ltb-true, ltb-false, leb-true, lt-ltb, le-ltb, and_parts}
use Rattle.std.proofs.lemmas.List.{take_more, get_or-take, get_or_default, length-take}
use Rattle.cedr_base.specs.declared.row.Row.{Row}
use Rattle.cedr_base.specs.declared.change.Change.TheVariants.{Add, Cut}
use Rattle.cedr_base.specs.declared.change.Message.{Message}
use Rattle.cedr_base.specs.declared.change.Message.TheVariants as message
use Rattle.cedr_text.specs.declared.event_line.EventLine.{EventLine}
use Rattle.cedr_text.specs.declared.event_line.EventLine.TheVariants.{Insert, Retract, Revise, Promise}
use Rattle.cedr_text.specs.declared.fault.LineFault.{LineFault}
use Rattle.cedr_text.specs.declared.fault.LineFault.TheVariants.{KnownId, BadEnd, BeforeGuarantee}
use Rattle.cedr_guard.specs.declared.state.EventState.{EventState}
use Rattle.cedr_guard.specs.Judging.{guarantee_of, event_with, row_lives, guarantee_fault, retraction_fault, revised_sync, revision_fault, fault_behind, IsAccepted, AreAccepted}
use Rattle.cedr_guard.specs.Messages.{cut_of, withdrawal_of, line_messages, Appended}
use Rattle.cedr_text.specs.Reading.{IsEvent}
use Rattle.cedr_base.specs.Rows.{IsRow}
use Rattle.cedr_guard.specs.Spelt.{State, state_row, row_of_id, events_among, by_id, lines_of, IsFit}
use Rattle.cedr_guard.specs.States.{as_it_is, known_of}
use Rattle.cedr_guard.proofs.EventLemmas.{guarantee_of-append, ended, event_and, event-push}
use Rattle.cedr_guard.proofs.StateLemmas.{lives_as, as_living, some_row}
use Rattle.cedr_guard.proofs.SpeltLemmas.{IdsAscend, AllAbove, ascend_state, known_lines, found_known, can_restore, spelt_event, spelt_mark, accepted-append}
use Rattle.cedr_guard.proofs.StateHistories.{fit_accepted}
use Rattle.open_events.specs.Endings.{still_open}
use Rattle.open_events.specs.Events.{open_row}
use Rattle.source_memory.specs.declared.guard.OpenGuard.{OpenGuard}
use Rattle.source_memory.specs.Opened.{Recalls}
use Rattle.source_memory.specs.Remembered.{event_is_over, left_events, remembered_lines, kept_with}
use Rattle.source_memory.proofs.MemoryLemmas.{remembers_left}

-- ---- what tests say

not_late_at : (sync mark : ℕ) (b : Bool) → nat_lt sync mark ≡ b → cond b (Some (BeforeGuarantee sync mark)) None ≡ None → mark ≤ sync
not_late_at sync mark true is none = absurd (let e = none in cc)
not_late_at sync mark false is none = ltb-false sync mark is

-- a sync without a fault isn't below the guarantee
pub not_late : (sync mark : ℕ) → guarantee_fault sync mark ≡ None → mark ≤ sync
not_late sync mark none = not_late_at sync mark (nat_lt sync mark) refl none

no_fault_at : (a : Bool) (late : Option LineFault) (fault : LineFault) → cond a late (Some fault) ≡ None → (a ≡ true) × (late ≡ None)
no_fault_at true late fault none = (refl, none)
no_fault_at false late fault none = absurd (let e = none in cc)

-- a retraction without a fault ends its event within it, and not below the guarantee
pub record IsWithin (row : Row) (end mark : ℕ) : Type 0 where
  pub begins : row.begin ≤ end
  pub ends : end < row.end
  pub late : mark ≤ end

pub within_row : (row : Row) (end mark : ℕ) → retraction_fault (Some row) end mark ≡ None → IsWithin row end mark
within_row row end mark none =
    let parts = no_fault_at (nat_le row.begin end && nat_lt end row.end) (guarantee_fault end mark) (BadEnd row.begin row.end) none in
    let both = and_parts (nat_le row.begin end) (nat_lt end row.end) parts.0 in
    record { begins = leb-true row.begin end both.0; ends = ltb-true end row.end both.1; late = not_late end mark parts.1 }

sync_low : (row : Row) (begin : ℕ) (b : Bool) → row_lives row ≡ b → revised_sync row begin ≤ begin
sync_low row begin true is = let e = ap (λ (x : Bool). cond x (min row.begin begin) begin) is in omega arith
sync_low row begin false is = let e = ap (λ (x : Bool). cond x (min row.begin begin) begin) is in omega arith

-- a revision without a fault doesn't begin below the guarantee
pub revised_late : (row : Row) (begin mark : ℕ) → revision_fault (Some row) begin mark ≡ None → mark ≤ begin
revised_late row begin mark none = let late = not_late (revised_sync row begin) mark none in let low = sync_low row begin (row_lives row) refl in omega arith

-- ---- the fault of a line, by the event as it is

is_some_as : (event : Option Row) → is_some (option_map as_it_is event) ≡ is_some event
is_some_as None = refl
is_some_as (Some row) = refl

begin_at : (row : Row) (b : Bool) → (cond b row (record row { payload = [] })).begin ≡ row.begin
begin_at row true = refl
begin_at row false = refl

end_at : (row : Row) (b : Bool) → (cond b row (record row { payload = [] })).end ≡ row.end
end_at row true = refl
end_at row false = refl

retraction_as : (event : Option Row) (end mark : ℕ) → retraction_fault (option_map as_it_is event) end mark ≡ retraction_fault event end mark
retraction_as None end mark = refl
retraction_as (Some row) end mark =
    ap (λ (b : ℕ). cond (nat_le b end && nat_lt end (as_it_is row).end) (guarantee_fault end mark) (Some (BadEnd b (as_it_is row).end))) (begin_at row (row_lives row))
    ∙ ap (λ (e : ℕ). cond (nat_le row.begin end && nat_lt end e) (guarantee_fault end mark) (Some (BadEnd row.begin e))) (end_at row (row_lives row))

revision_as : (event : Option Row) (begin mark : ℕ) → revision_fault (option_map as_it_is event) begin mark ≡ revision_fault event begin mark
revision_as None begin mark = refl
revision_as (Some row) begin mark =
    ap (λ (b : Bool). guarantee_fault (cond b (min (as_it_is row).begin begin) begin) mark) (lives_as row)
    ∙ ap (λ (n : ℕ). guarantee_fault (cond (row_lives row) (min n begin) begin) mark) (begin_at row (row_lives row))

pub fault-insert : (kept : List EventLine) (id : ℕ) (row : Row) (found : Option Row) → found ≡ known_of id kept → fault_behind kept (Insert id row) ≡ cond (is_some found) (Some KnownId) (guarantee_fault row.begin (guarantee_of kept))
fault-insert kept id row found is = ap (λ (b : Bool). cond b (Some KnownId) (guarantee_fault row.begin (guarantee_of kept))) (sym (is_some_as (event_with id kept)) ∙ sym (ap is_some is))

pub fault-retract : (kept : List EventLine) (id end : ℕ) (found : Option Row) → found ≡ known_of id kept → fault_behind kept (Retract id end) ≡ retraction_fault found end (guarantee_of kept)
fault-retract kept id end found is = sym (retraction_as (event_with id kept) end (guarantee_of kept)) ∙ ap (λ (o : Option Row). retraction_fault o end (guarantee_of kept)) (sym is)

pub fault-revise : (kept : List EventLine) (id : ℕ) (row : Row) (found : Option Row) → found ≡ known_of id kept → fault_behind kept (Revise id row) ≡ revision_fault found row.begin (guarantee_of kept)
fault-revise kept id row found is = sym (revision_as (event_with id kept) row.begin (guarantee_of kept)) ∙ ap (λ (o : Option Row). revision_fault o row.begin (guarantee_of kept)) (sym is)

-- ---- its messages

-- an event that lives is known as it is
living_event : (event : Option Row) (row : Row) → option_map as_it_is event ≡ Some row → row_lives row ≡ true → event ≡ Some row
living_event None row is lives = absurd (let e = is in cc)
living_event (Some r) row is lives =
    let same = some_row (as_it_is r) row is in
    let alive : row_lives r ≡ true = sym (lives_as r) ∙ (ap row_lives same ∙ lives) in
    ap (λ (x : Row). Some x) (sym (as_living r alive) ∙ same)

-- a retraction cuts the row that is known
pub cut_known : (kept : List EventLine) (id end : ℕ) (row : Row) → known_of id kept ≡ Some row → IsWithin row end (guarantee_of kept) → cut_of (event_with id kept) end ≡ message.Change (Cut row end) ∷ []
cut_known kept id end row is within =
    let lives : row_lives row ≡ true = lt-ltb row.begin row.end (let b = within.begins in let e = within.ends in omega arith) in
    ap (λ (o : Option Row). cut_of o end) (living_event (event_with id kept) row is lives)

withdrawn_at : (r row : Row) (b : Bool) → row_lives r ≡ b → as_it_is r ≡ row → withdrawal_of (Some r) ≡ cond (row_lives row) (message.Change (Cut row row.begin) ∷ []) []
withdrawn_at r row true lives is =
    let same : r ≡ row = sym (as_living r lives) ∙ is in
    ap (λ (x : Row). cond (row_lives x) (message.Change (Cut x x.begin) ∷ []) []) same
withdrawn_at r row false gone is =
    let none : row_lives row ≡ false = sym (ap row_lives is) ∙ (lives_as r ∙ gone) in
    ap {B = List Message} (λ (b : Bool). cond b (message.Change (Cut r r.begin) ∷ []) []) gone ∙ sym (ap {B = List Message} (λ (b : Bool). cond b (message.Change (Cut row row.begin) ∷ []) []) none)

withdrawal_at : (event : Option Row) (row : Row) → option_map as_it_is event ≡ Some row → withdrawal_of event ≡ cond (row_lives row) (message.Change (Cut row row.begin) ∷ []) []
withdrawal_at None row is = absurd (let e = is in cc)
withdrawal_at (Some r) row is = withdrawn_at r row (row_lives r) refl (some_row (as_it_is r) row is)

-- a revision cuts the row that is known, where that lives
pub withdrawal_known : (kept : List EventLine) (id : ℕ) (row : Row) (b : Bool) → known_of id kept ≡ Some row → row_lives row ≡ b → withdrawal_of (event_with id kept) ≡ cond b (message.Change (Cut row row.begin) ∷ []) []
withdrawal_known kept id row b is lives = withdrawal_at (event_with id kept) row is ∙ ap {B = List Message} (λ (x : Bool). cond x (message.Change (Cut row row.begin) ∷ []) []) lives

-- ---- what is known behind one more line

known-push : (q : ℕ) (kept : List EventLine) (line : EventLine) → known_of q (kept ++ line ∷ []) ≡ option_map as_it_is (event_and q line (event_with q kept))
known-push q kept line = ap (option_map as_it_is) (event-push q kept line)

as_put : (b : Bool) (row : Row) (found : Option Row) → row_lives row ≡ true → option_map as_it_is (cond b (Some row) found) ≡ cond b (Some row) (option_map as_it_is found)
as_put true row found lives = ap (λ (r : Row). Some r) (as_living row lives)
as_put false row found lives = refl

-- the row of an id is this one, and each other one is as before
abbrev pub KnowsPut : List EventLine → EventLine → ℕ → Row → Type 0
KnowsPut kept line id row = (q : ℕ) → known_of q (kept ++ line ∷ []) ≡ cond (nat_eq id q) (Some row) (known_of q kept)

pub known_inserted : (kept : List EventLine) (id : ℕ) (row : Row) → row_lives row ≡ true → KnowsPut kept (Insert id row) id row
known_inserted kept id row lives q = known-push q kept (Insert id row) ∙ as_put (eqb id q) row (event_with q kept) lives

pub known_revised : (kept : List EventLine) (id : ℕ) (row : Row) → row_lives row ≡ true → KnowsPut kept (Revise id row) id row
known_revised kept id row lives q = known-push q kept (Revise id row) ∙ as_put (eqb id q) row (event_with q kept) lives

cut_at : (b : Bool) (found : Option Row) (end : ℕ) (row : Row) → (b ≡ true → found ≡ Some row) → end < row.end → option_map as_it_is (cond b (option_map (ended end) found) found) ≡ cond b (Some (as_it_is (record row { end = end }))) (option_map as_it_is found)
cut_at true found end row is low = ap (λ (o : Option Row). option_map as_it_is (option_map (ended end) o)) (is refl) ∙ ap (λ (e : ℕ). Some (as_it_is (record row { end = e }))) (omega arith)
cut_at false found end row is low = refl

pub known_retracted : (kept : List EventLine) (id end : ℕ) (row : Row) → known_of id kept ≡ Some row → IsWithin row end (guarantee_of kept) → KnowsPut kept (Retract id end) id (as_it_is (record row { end = end }))
known_retracted kept id end row is within q =
    let lives : row_lives row ≡ true = lt-ltb row.begin row.end (let b = within.begins in let e = within.ends in omega arith) in
    known-push q kept (Retract id end)
    ∙ cut_at (eqb id q) (event_with q kept) end row (λ same. subst (λ (i : ℕ). event_with i kept ≡ Some row) (eqb-true id q same) (living_event (event_with id kept) row is lives)) within.ends

-- ---- the guard behind one more line

open_put : (b : Bool) (row r : Row) (found : Option Row) (mark : ℕ) → cond b (Some row) found ≡ Some r → mark ≤ row.end → (found ≡ Some r → mark ≤ r.end) → mark ≤ r.end
open_put true row r found mark is late before = subst (λ (x : Row). mark ≤ x.end) (some_row row r is) late
open_put false row r found mark is late before = before is

pub accepted_more : (kept : List EventLine) (line : EventLine) → AreAccepted kept → IsAccepted kept line → AreAccepted (kept ++ line ∷ [])
accepted_more kept line accepted more = accepted-append [] kept (line ∷ []) accepted (more, tt)

-- a guard that has the row that a line gives an id
pub recalls_put : (old new : OpenGuard) (kept : List EventLine) (line : EventLine) (id : ℕ) (row : Row) → Recalls old kept → IsAccepted kept line → KnowsPut kept line id row → guarantee_of (kept ++ line ∷ []) ≡ guarantee_of kept → guarantee_of kept ≤ row.end
    → ((q : ℕ) → open_row new.events q ≡ cond (nat_eq id q) (Some row) (open_row old.events q)) → new.mark ≡ old.mark → Recalls new (kept ++ line ∷ [])
recalls_put old new kept line id row recalls more knows same late put mark = record {
  mark = mark ∙ (recalls.mark ∙ sym same);
  events = λ q. put q ∙ (ap (λ (o : Option Row). cond (nat_eq id q) (Some row) o) (recalls.events q) ∙ sym (knows q));
  none_over = λ q r is.
      let high = open_put (nat_eq id q) row r (known_of q kept) (guarantee_of kept) (sym (knows q) ∙ is) late (recalls.none_over q r) in
      subst (λ (n : ℕ). n ≤ r.end) (sym same) high;
  accepted = accepted_more kept line recalls.accepted more;
}

-- a guard that has what it had
pub recalls_kept : (old new : OpenGuard) (kept : List EventLine) → Recalls old kept → new.mark ≡ old.mark → ((q : ℕ) → open_row new.events q ≡ open_row old.events q) → Recalls new kept
recalls_kept old new kept recalls mark same = record { mark = mark ∙ recalls.mark; events = λ q. same q ∙ recalls.events q; none_over = recalls.none_over; accepted = recalls.accepted }

-- ---- a line before a guard

pub judged_insert : (guard : OpenGuard) (kept : List EventLine) (id : ℕ) (row : Row) → Recalls guard kept → fault_behind kept (Insert id row) ≡ cond (is_some (open_row guard.events id)) (Some KnownId) (guarantee_fault row.begin guard.mark)
judged_insert guard kept id row recalls =
    fault-insert kept id row (open_row guard.events id) (recalls.events id)
    ∙ ap (λ (n : ℕ). cond (is_some (open_row guard.events id)) (Some KnownId) (guarantee_fault row.begin n)) (sym recalls.mark)

pub judged_retract : (guard : OpenGuard) (kept : List EventLine) (id end : ℕ) → Recalls guard kept → fault_behind kept (Retract id end) ≡ retraction_fault (open_row guard.events id) end guard.mark
judged_retract guard kept id end recalls = fault-retract kept id end (open_row guard.events id) (recalls.events id) ∙ ap (retraction_fault (open_row guard.events id) end) (sym recalls.mark)

pub judged_revise : (guard : OpenGuard) (kept : List EventLine) (id : ℕ) (row : Row) → Recalls guard kept → fault_behind kept (Revise id row) ≡ revision_fault (open_row guard.events id) row.begin guard.mark
judged_revise guard kept id row recalls = fault-revise kept id row (open_row guard.events id) (recalls.events id) ∙ ap (revision_fault (open_row guard.events id) row.begin) (sym recalls.mark)

-- the messages of a retraction and of a revision
pub messages_retract : (guard : OpenGuard) (kept : List EventLine) (id end : ℕ) (row : Row) → Recalls guard kept → open_row guard.events id ≡ Some row → retraction_fault (Some row) end guard.mark ≡ None → line_messages kept (Retract id end) ≡ message.Change (Cut row end) ∷ []
messages_retract guard kept id end row recalls found none =
    cut_known kept id end row (sym (recalls.events id) ∙ found) (within_row row end (guarantee_of kept) (ap (retraction_fault (Some row) end) (sym recalls.mark) ∙ none))

pub messages_revise : (guard : OpenGuard) (kept : List EventLine) (id : ℕ) (row new : Row) (b : Bool) → Recalls guard kept → open_row guard.events id ≡ Some row → row_lives row ≡ b
    → line_messages kept (Revise id new) ≡ cond b (message.Change (Cut row row.begin) ∷ []) [] ++ message.Change (Add new) ∷ []
messages_revise guard kept id row new b recalls found lives = ap (λ (ms : List Message). ms ++ message.Change (Add new) ∷ []) (withdrawal_known kept id row b (sym (recalls.events id) ∙ found) lives)

-- what was appended of a revision
pub revised_at : (guard : OpenGuard) (kept : List EventLine) (id : ℕ) (row new : Row) (out mid : List Message) (b : Bool) → Recalls guard kept → open_row guard.events id ≡ Some row → row_lives row ≡ b → mid ≡ out ++ cond b (message.Change (Cut row row.begin) ∷ []) []
    → mid ++ message.Change (Add new) ∷ [] ≡ out ++ line_messages kept (Revise id new)
revised_at guard kept id row new out mid b recalls found lives is =
    ap (λ (ms : List Message). ms ++ message.Change (Add new) ∷ []) is
    ∙ (append_assoc out (cond b (message.Change (Cut row row.begin) ∷ []) []) (message.Change (Add new) ∷ [])
    ∙ ap (λ (ms : List Message). out ++ ms) (sym (messages_revise guard kept id row new b recalls found lives)))

-- it appends one message or two
pub appended_one : (out mid now : List Message) (m : Message) → mid ≡ out → now ≡ mid ++ m ∷ [] → Appended out now
appended_one out mid now m is more = record { added = m ∷ []; all = more ∙ ap (λ (ms : List Message). ms ++ m ∷ []) is; few = omega arith }

pub appended_two : (out mid now : List Message) (first second : Message) → mid ≡ out ++ first ∷ [] → now ≡ mid ++ second ∷ [] → Appended out now
appended_two out mid now first second is more = record {
  added = first ∷ second ∷ [];
  all = more ∙ (ap (λ (ms : List Message). ms ++ second ∷ []) is ∙ append_assoc out (first ∷ []) (second ∷ []));
  few = omega arith;
}

-- those of a guarantee that isn't above the earlier ones, and of one that is
pub messages_quiet : (guard : OpenGuard) (kept : List EventLine) (time : ℕ) (out : List Message) → Recalls guard kept → time ≤ guard.mark → out ≡ out ++ line_messages kept (Promise time)
messages_quiet guard kept time out recalls low =
    let was = recalls.mark in
    sym (append-nil out) ∙ ap (λ (ms : List Message). out ++ ms) (sym (ap {B = List Message} (λ (b : Bool). cond b (message.Mark time ∷ []) []) (le-ltb (guarantee_of kept) time (omega arith))))

pub messages_risen : (guard : OpenGuard) (kept : List EventLine) (time : ℕ) → Recalls guard kept → guard.mark < time → line_messages kept (Promise time) ≡ message.Mark time ∷ []
messages_risen guard kept time recalls rises = let was = recalls.mark in ap {B = List Message} (λ (b : Bool). cond b (message.Mark time ∷ []) []) (lt-ltb (guarantee_of kept) time (omega arith))

-- an id that isn't known has no row
pub none_from : (found : Option Row) → is_some found ≡ false → found ≡ None
none_from None none = refl
none_from (Some row) none = absurd (let e = none in cc)

-- a guard has this row under an id, and each other id has what it had
abbrev pub HasPut : OpenGuard → OpenGuard → ℕ → Row → Type 0
HasPut old new id row = (q : ℕ) → open_row new.events q ≡ cond (nat_eq id q) (Some row) (open_row old.events q)

unmarked : (kept : List EventLine) (line : EventLine) → guarantee_of (line ∷ []) ≡ 0 → guarantee_of (kept ++ line ∷ []) ≡ guarantee_of kept
unmarked kept line none = omega (arith, guarantee_of-append kept (line ∷ []))

-- a guard that takes an insertion
pub stands_insert : (old new : OpenGuard) (kept : List EventLine) (id : ℕ) (row : Row) → Recalls old kept → IsRow row → open_row old.events id ≡ None → guarantee_fault row.begin old.mark ≡ None → HasPut old new id row → new.mark ≡ old.mark → Recalls new (kept ++ Insert id row ∷ [])
stands_insert old new kept id row recalls is none late put mark =
    let faultless : fault_behind kept (Insert id row) ≡ None = judged_insert old kept id row recalls ∙ (ap (λ (o : Option Row). cond (is_some o) (Some KnownId) (guarantee_fault row.begin old.mark)) none ∙ late) in
    let above = not_late row.begin old.mark late in
    let same = recalls.mark in
    let lives = is.lives in
    recalls_put old new kept (Insert id row) id row recalls (record { event = is; faultless = faultless }) (known_inserted kept id row (lt-ltb row.begin row.end lives)) (unmarked kept (Insert id row) refl) (omega arith) put mark

-- one that takes a retraction
pub stands_retract : (old new : OpenGuard) (kept : List EventLine) (id end : ℕ) (row left : Row) → Recalls old kept → IsEvent (Retract id end) → open_row old.events id ≡ Some row → retraction_fault (Some row) end old.mark ≡ None → left ≡ as_it_is (record row { end = end }) → HasPut old new id left → new.mark ≡ old.mark
    → Recalls new (kept ++ Retract id end ∷ [])
stands_retract old new kept id end row left recalls is found none left_is put mark =
    let faultless : fault_behind kept (Retract id end) ≡ None = judged_retract old kept id end recalls ∙ (ap (λ (o : Option Row). retraction_fault o end old.mark) found ∙ none) in
    let within = within_row row end (guarantee_of kept) (ap (retraction_fault (Some row) end) (sym recalls.mark) ∙ none) in
    let ends : left.end ≡ end = ap (λ (r : Row). r.end) left_is ∙ end_at (record row { end = end }) (row_lives (record row { end = end })) in
    let late = within.late in
    let knows : KnowsPut kept (Retract id end) id left = subst (KnowsPut kept (Retract id end) id) (sym left_is) (known_retracted kept id end row (sym (recalls.events id) ∙ found) within) in
    recalls_put old new kept (Retract id end) id left recalls (record { event = is; faultless = faultless }) knows (unmarked kept (Retract id end) refl) (omega arith) put mark

-- and one that takes a revision
pub stands_revise : (old new : OpenGuard) (kept : List EventLine) (id : ℕ) (row next : Row) → Recalls old kept → IsRow next → open_row old.events id ≡ Some row → revision_fault (Some row) next.begin old.mark ≡ None → HasPut old new id next → new.mark ≡ old.mark → Recalls new (kept ++ Revise id next ∷ [])
stands_revise old new kept id row next recalls is found none put mark =
    let faultless : fault_behind kept (Revise id next) ≡ None = judged_revise old kept id next recalls ∙ (ap (λ (o : Option Row). revision_fault o next.begin old.mark) found ∙ none) in
    let above = revised_late row next.begin old.mark none in
    let same = recalls.mark in
    let lives = is.lives in
    recalls_put old new kept (Revise id next) id next recalls (record { event = is; faultless = faultless }) (known_revised kept id next (lt-ltb next.begin next.end lives)) (unmarked kept (Revise id next) refl) (omega arith) put mark

-- ---- what is remembered

left_at : (mark id : ℕ) (e : EventState) (es : List EventState) (here over : Bool) → eqb e.id id ≡ here → event_is_over mark e ≡ over → (here ≡ true → row_of_id id es ≡ None) → row_of_id id (left_events mark es) ≡ still_open mark (row_of_id id es)
    → row_of_id id (cond (not over) (e ∷ left_events mark es) (left_events mark es)) ≡ still_open mark (cond here (Some (state_row e)) (row_of_id id es))
left_at mark id e es true true at is none rest = rest ∙ (ap (still_open mark) (none refl) ∙ sym (ap (λ (b : Bool). cond b None (Some (state_row e))) is))
left_at mark id e es true false at is none rest = ap (λ (b : Bool). cond b (Some (state_row e)) (row_of_id id (left_events mark es))) at ∙ sym (ap (λ (b : Bool). cond b None (Some (state_row e))) is)
left_at mark id e es false true at is none rest = rest
left_at mark id e es false false at is none rest = ap (λ (b : Bool). cond b (Some (state_row e)) (row_of_id id (left_events mark es))) at ∙ rest

above_apart : (a b : ℕ) (t : Bool) → a < b → eqb b a ≡ t → t ≡ false
above_apart a b true h e = absurd (let same = eqb-true b a e in omega arith)
above_apart a b false h e = refl

none_above : (id : ℕ) (es : List EventState) → AllAbove id es → row_of_id id es ≡ None
none_above id [] above = refl
none_above id (e ∷ es) above = ap (λ (b : Bool). cond b (Some (state_row e)) (row_of_id id es)) (above_apart id e.id (eqb e.id id) above.0 refl) ∙ none_above id es above.1

-- an event is found among those that are left where it isn't over
found_left : (mark id : ℕ) (es : List EventState) → IdsAscend es → row_of_id id (left_events mark es) ≡ still_open mark (row_of_id id es)
found_left mark id [] up = refl
found_left mark id (e ∷ es) up =
    left_at mark id e es (eqb e.id id) (event_is_over mark e) refl refl (λ here. subst (λ (n : ℕ). row_of_id n es ≡ None) (eqb-true e.id id here) (none_above e.id es up.0)) (found_left mark id es up.1)

-- what is known of lines, where what is over is forgotten
pub known_left : (lines : List EventLine) → AreAccepted lines → (id : ℕ) → known_of id (remembered_lines lines) ≡ still_open (guarantee_of lines) (known_of id lines)
known_left lines accepted id =
    let known = known_lines lines accepted in
    let left = remembers_left lines accepted in
    sym (found_known id (remembered_lines lines) (known_lines (remembered_lines lines) left.accepted))
    ∙ (ap (λ (s : State). row_of_id id s.events) left.state
    ∙ (found_left (guarantee_of lines) id (by_id (events_among lines)) (ascend_state lines known)
    ∙ ap (still_open (guarantee_of lines)) (found_known id lines known)))

open_only_at : (time : ℕ) (r row : Row) (b : Bool) → nat_lt r.end time ≡ b → cond b None (Some r) ≡ Some row → time ≤ row.end
open_only_at time r row true is there = absurd (let e = there in cc)
open_only_at time r row false is there = subst (λ (x : Row). time ≤ x.end) (some_row r row there) (ltb-false r.end time is)

open_only : (time : ℕ) (found : Option Row) (row : Row) → still_open time found ≡ Some row → time ≤ row.end
open_only time None row is = absurd (let e = is in cc)
open_only time (Some r) row is = open_only_at time r row (nat_lt r.end time) refl is

-- a guarantee changes no event
known_promised : (kept : List EventLine) (time q : ℕ) → known_of q (kept ++ Promise time ∷ []) ≡ known_of q kept
known_promised kept time q = known-push q kept (Promise time)

-- the guard behind a guarantee that rose
pub recalls_risen : (old new : OpenGuard) (kept : List EventLine) (time : ℕ) → Recalls old kept → IsAccepted kept (Promise time) → old.mark < time → ((q : ℕ) → open_row new.events q ≡ still_open time (open_row old.events q)) → new.mark ≡ time → Recalls new (kept_with kept (Promise time))
recalls_risen old new kept time recalls more rises left mark =
    let now = kept ++ Promise time ∷ [] in
    let accepted = accepted_more kept (Promise time) recalls.accepted more in
    let was = recalls.mark in
    let risen : guarantee_of now ≡ time = omega (arith, guarantee_of-append kept (Promise time ∷ [])) in
    let same : guarantee_of (remembered_lines now) ≡ time = ap (λ (s : State). s.mark) (remembers_left now accepted).state ∙ risen in
    let knows : (q : ℕ) → known_of q (remembered_lines now) ≡ still_open time (known_of q kept) =
    λ q. known_left now accepted q ∙ (ap (λ (n : ℕ). still_open n (known_of q now)) risen ∙ ap (still_open time) (known_promised kept time q)) in
    let new_kept : kept_with kept (Promise time) ≡ remembered_lines now = ap (λ (b : Bool). cond b (remembered_lines now) now) (lt-ltb (guarantee_of kept) time (omega arith)) in
    subst (Recalls new) (sym new_kept) (record {
      mark = mark ∙ sym same;
      events = λ q. left q ∙ (ap (still_open time) (recalls.events q) ∙ sym (knows q));
      none_over = λ q r is. subst (λ (n : ℕ). n ≤ r.end) (sym same) (open_only time (known_of q kept) r (sym (knows q) ∙ is));
      accepted = (remembers_left now accepted).accepted;
    })

-- the guard behind one that didn't
pub recalls_same : (guard : OpenGuard) (kept : List EventLine) (time : ℕ) → Recalls guard kept → IsAccepted kept (Promise time) → time ≤ guard.mark → Recalls guard (kept_with kept (Promise time))
recalls_same guard kept time recalls more low =
    let now = kept ++ Promise time ∷ [] in
    let was = recalls.mark in
    let same : guarantee_of now ≡ guarantee_of kept = omega (arith, guarantee_of-append kept (Promise time ∷ [])) in
    let new_kept : kept_with kept (Promise time) ≡ now = ap (λ (b : Bool). cond b (remembered_lines now) now) (le-ltb (guarantee_of kept) time (omega arith)) in
    subst (Recalls guard) (sym new_kept) (record {
      mark = recalls.mark ∙ sym same;
      events = λ q. recalls.events q ∙ sym (known_promised kept time q);
      none_over = λ q r is. subst (λ (n : ℕ). n ≤ r.end) (sym same) (recalls.none_over q r (sym (known_promised kept time q) ∙ is));
      accepted = accepted_more kept (Promise time) recalls.accepted more;
    })

-- ---- a guard of a state

-- what is known of an id by a state's events
abbrev pub known_among : ℕ → List EventState → Option Row
known_among q events = option_map as_it_is (row_of_id q events)

none_before : (n : ℕ) (es : List EventState) → ((k : ℕ) (d : EventState) → k < length es → (get_or es k d).id < n) → row_of_id n es ≡ None
none_before n [] low = refl
none_before n (e ∷ es) low =
    ap (λ (b : Bool). cond b (Some (state_row e)) (row_of_id n es)) (below_apart e.id n (eqb e.id n) (low 0 e (omega arith)) refl)
    ∙ none_before n es (λ k d within. low (suc k) d (omega arith))
  where
    below_apart : (a b : ℕ) (t : Bool) → a < b → eqb a b ≡ t → t ≡ false
    below_apart a b true h e = absurd (let same = eqb-true a b e in omega arith)
    below_apart a b false h e = refl

last_at : (a b : Bool) (x y : Option Row) (rest : Option Row) → (a ≡ true → b ≡ false) → cond a x (cond b y rest) ≡ cond b y (cond a x rest)
last_at true true x y rest apart = absurd (let e = apart refl in cc)
last_at true false x y rest apart = refl
last_at false b x y rest apart = refl

first_none : (b : Bool) (x : Row) (rest : Option Row) → cond b (Some x) rest ≡ None → (b ≡ false) × (rest ≡ None)
first_none true x rest none = absurd (let e = none in cc)
first_none false x rest none = (refl, none)

-- an event with a new id behind others
found_last : (q : ℕ) (es : List EventState) (e : EventState) → row_of_id e.id es ≡ None → row_of_id q (es ++ e ∷ []) ≡ cond (eqb e.id q) (Some (state_row e)) (row_of_id q es)
found_last q [] e none = refl
found_last q (x ∷ es) e none =
    let parts = first_none (eqb x.id e.id) (state_row x) (row_of_id e.id es) none in
    ap (λ (o : Option Row). cond (eqb x.id q) (Some (state_row x)) o) (found_last q es e parts.1)
    ∙ last_at (eqb x.id q) (eqb e.id q) (Some (state_row x)) (Some (state_row e)) (row_of_id q es) (λ here. other_at (eqb e.id q) refl (eqb-true x.id q here) parts.0)
  where
    other_at : (b : Bool) → eqb e.id q ≡ b → x.id ≡ q → eqb x.id e.id ≡ false → b ≡ false
    other_at true is same apart = absurd (let here = eqb-true e.id q is in let z = eq-eqb x.id e.id (same ∙ sym here) in cc)
    other_at false is same apart = refl

-- the events of a state before one of them have other ids
known_new : (events : List EventState) (i : ℕ) (e : EventState) → AllPairs (λ (x : EventState) (later : EventState). x.id < later.id) events → i < length events → get_or events i e ≡ e → row_of_id e.id (take i events) ≡ None
known_new events i e up within at =
    none_before e.id (take i events) (λ k d inside.
    let before : k < i = omega (arith, length-take i events) in
    subst (λ (x : EventState). x.id < e.id) (sym (get_or-take i events k d before)) (subst (λ (x : EventState). (get_or events k d).id < x.id) (get_or_default events i d e within ∙ at) (up k i d before within)))

-- the first events of a state with one more
known_more : (events : List EventState) (i : ℕ) (e : EventState) → AllPairs (λ (x : EventState) (later : EventState). x.id < later.id) events → i < length events → get_or events i e ≡ e
    → (q : ℕ) → row_of_id q (take (i + 1) events) ≡ cond (eqb e.id q) (Some (state_row e)) (row_of_id q (take i events))
known_more events i e up within at q = ap (row_of_id q) (take_more events i e within ∙ ap (λ (x : EventState). take i events ++ x ∷ []) at) ∙ found_last q (take i events) e (known_new events i e up within at)

over_put_at : (mark : ℕ) (b : Bool) (row : Row) (found : Option Row) → nat_lt row.end mark ≡ false → still_open mark (option_map as_it_is (cond b (Some row) found)) ≡ cond b (Some (as_it_is row)) (still_open mark (option_map as_it_is found))
over_put_at mark true row found late = ap (λ (t : Bool). cond t None (Some (as_it_is row))) (ap (λ (n : ℕ). nat_lt n mark) (end_at row (row_lives row)) ∙ late)
over_put_at mark false row found late = refl

over_left_at : (mark : ℕ) (b : Bool) (row : Row) (found : Option Row) → nat_lt row.end mark ≡ true → (b ≡ true → found ≡ None) → still_open mark (option_map as_it_is (cond b (Some row) found)) ≡ still_open mark (option_map as_it_is found)
over_left_at mark true row found over none =
    ap (λ (t : Bool). cond t None (Some (as_it_is row))) (ap (λ (n : ℕ). nat_lt n mark) (end_at row (row_lives row)) ∙ over)
    ∙ sym (ap (λ (o : Option Row). still_open mark (option_map as_it_is o)) (none refl))
over_left_at mark false row found over none = refl

-- what is open of the first events of a state
abbrev pub OpenAmong : ℕ → List EventState → (ℕ → Option Row) → Type 0
OpenAmong mark events rows = (q : ℕ) → rows q ≡ still_open mark (known_among q events)

-- one more event that isn't over
pub among_put : (mark : ℕ) (events : List EventState) (i : ℕ) (e : EventState) (old new : ℕ → Option Row) → AllPairs (λ (x : EventState) (later : EventState). x.id < later.id) events → i < length events → get_or events i e ≡ e → mark ≤ e.end
    → OpenAmong mark (take i events) old → ((q : ℕ) → new q ≡ cond (nat_eq e.id q) (Some (as_it_is (state_row e))) (old q)) → OpenAmong mark (take (i + 1) events) new
among_put mark events i e old new up within at late were put q =
    put q
    ∙ (ap (λ (o : Option Row). cond (nat_eq e.id q) (Some (as_it_is (state_row e))) o) (were q)
    ∙ (sym (over_put_at mark (eqb e.id q) (state_row e) (row_of_id q (take i events)) (le-ltb e.end mark late))
    ∙ sym (ap (λ (o : Option Row). still_open mark (option_map as_it_is o)) (known_more events i e up within at q))))

-- and one that is
pub among_left : (mark : ℕ) (events : List EventState) (i : ℕ) (e : EventState) (rows : ℕ → Option Row) → AllPairs (λ (x : EventState) (later : EventState). x.id < later.id) events → i < length events → get_or events i e ≡ e → e.end < mark
    → OpenAmong mark (take i events) rows → OpenAmong mark (take (i + 1) events) rows
among_left mark events i e rows up within at over were q =
    were q
    ∙ (sym (over_left_at mark (eqb e.id q) (state_row e) (row_of_id q (take i events)) (lt-ltb e.end mark over) (λ here. subst (λ (n : ℕ). row_of_id n (take i events) ≡ None) (eqb-true e.id q here) (known_new events i e up within at)))
    ∙ sym (ap (λ (o : Option Row). still_open mark (option_map as_it_is o)) (known_more events i e up within at q)))

-- a guard that has what is open of a state stands for what is remembered of the lines that spell it
pub recalls_state : (guard : OpenGuard) (state : State) → IsFit state → guard.mark ≡ state.mark → OpenAmong state.mark state.events (open_row guard.events) → Recalls guard (remembered_lines (lines_of state))
recalls_state guard state fit mark among =
    let lines = lines_of state in
    let can = can_restore state fit in
    let accepted = fit_accepted state fit in
    let left = remembers_left lines accepted in
    let spelt : guarantee_of lines ≡ state.mark = spelt_mark state.events state.mark can fit.time in
    let same : guarantee_of (remembered_lines lines) ≡ state.mark = ap (λ (s : State). s.mark) left.state ∙ spelt in
    let knows : (q : ℕ) → known_of q (remembered_lines lines) ≡ still_open state.mark (known_among q state.events) =
    λ q. known_left lines accepted q ∙ (ap (λ (n : ℕ). still_open n (known_of q lines)) spelt ∙ ap (λ (found : Option Row). still_open state.mark (option_map as_it_is found)) (spelt_event state.events state.mark can fit.time q)) in
    record {
      mark = mark ∙ sym same;
      events = λ q. among q ∙ sym (knows q);
      none_over = λ q r is. subst (λ (n : ℕ). n ≤ r.end) (sym same) (open_only state.mark (known_among q state.events) r (sym (knows q) ∙ is));
      accepted = left.accepted;
    }

-- no event of a guard before its first line is over
pub recalls_none : (guard : OpenGuard) → guard.mark ≡ 0 → ((q : ℕ) → open_row guard.events q ≡ None) → Recalls guard []
recalls_none guard mark none = record { mark = mark; events = none; none_over = λ q r is. absurd (let e = is in cc); accepted = tt }

-- what holds anyway holds where an error is answered
pub on_err : {X E : Type 0} (r : Result X E) (P : Type 0) → P → OnErr r P
on_err (Ok x) P holds = tt
on_err (Err e) P holds = holds
