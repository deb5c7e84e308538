-- The messages of accepted lines are legal, and their table is the canonical history.
use Rattle.std.proofs.Common.{◌≡◌, ℕ, zero, suc, ◌+◌, ◌<◌, ◌≤◌, List, [], ◌∷◌, ◌++◌, Bool, true, false, cond, ◌&&◌, eqb, length, get_or, set, filter, min, Option, None, Some, IfSome, refl, ap, sym, ◌∙◌, subst, subst₂, arith, append_assoc, append-nil}
use Rattle.std.specs.Prelude.{option_map, unwrap_or, is_some, nat_lt, nat_le}
use Rattle.std.proofs.lemmas.Bool.{ltb-true, ltb-false, leb-true}
use Rattle.std.proofs.lemmas.List.{set-get_or}
use Rattle.cedr_base.specs.declared.time.TheConstants.{FOREVER}
use Rattle.cedr_base.specs.declared.row.Row.{Row}
use Rattle.cedr_base.specs.declared.change.Change.{Change}
use Rattle.cedr_base.specs.declared.change.Change.TheVariants.{Add, Cut}
use Rattle.cedr_base.specs.declared.change.Message.{Message}
use Rattle.cedr_base.specs.declared.change.Message.TheVariants as message
use Rattle.cedr_base.specs.Rows.{IsRow, count_of}
use Rattle.cedr_base.specs.Changes.{puts, takes, all_puts, all_takes}
use Rattle.cedr_base.specs.Messages.{changes_of, mark_of, IsOpen, IsTableOf, IsLegalBehind}
use Rattle.cedr_text.specs.declared.event_line.EventLine.{EventLine}
use Rattle.cedr_text.specs.declared.event_line.EventLine.TheVariants.{Insert, Retract, Revise, Promise}
use Rattle.cedr_text.specs.declared.fault.LineFault.TheVariants.{KnownId, BadEnd, BeforeGuarantee}
use Rattle.cedr_guard.specs.Judging.{guarantee_of, ends_of, least_end, row_after, event_with, row_lives, guarantee_fault, retraction_fault, revision_fault, revised_sync, IsAccepted, AreAccepted, AreAcceptedBehind}
use Rattle.cedr_guard.specs.History.{rows_among, history_of}
use Rattle.cedr_guard.specs.Messages.{line_messages, cut_of, withdrawal_of, messages_behind}
use Rattle.cedr_guard.specs.Standing.{place_of_event, AreKnown}
use Rattle.cedr_guard.proofs.EventLemmas.{guarantee_of-append, event_place, place_below, cut_at, rows-insert, rows-retract, rows-revise, rows-promise}
use Rattle.cedr_guard.proofs.ApartLemmas.{known-insert, known-retract, known-revise, known-promise}
use Rattle.cedr_guard.proofs.LivingLemmas.{count_of-push, in_order_count, living_push, living_at, living_cut, living_put}
use Rattle.cedr_base.proofs.Bags.{count_of-append, count_of-cons}
use Rattle.change_laws.proofs.Legal.{changes-append, mark-append, open-append, legal-append}

-- ---- what messages and accepted lines have in common

-- each version among the lines has a row
abbrev HaveRows : List EventLine → Type 0
HaveRows [] = Unit {0}
HaveRows (Insert id row ∷ lines) = IsRow row × HaveRows lines
HaveRows (Retract id end ∷ lines) = HaveRows lines
HaveRows (Revise id row ∷ lines) = IsRow row × HaveRows lines
HaveRows (Promise time ∷ lines) = HaveRows lines

-- the rows that live after the lines
abbrev living : List EventLine → List Row
living lines = filter row_lives (rows_among lines)

-- messages that accepted lines became
pub record AreOf (lines : List EventLine) (ms : List Message) : Type 0 where
  pub goes_on : IsOpen ms
  pub mark : mark_of ms ≡ guarantee_of lines
  pub table : (r : Row) → count_of r (living lines) + count_of r (all_takes (changes_of ms)) ≡ count_of r (all_puts (changes_of ms))
  pub known : AreKnown lines
  rows : HaveRows lines

-- a line's messages may come after those of the lines before it, and are with them those of the lines with it
record Follows (before : List EventLine) (line : EventLine) (ms next : List Message) : Type 0 where
  legal : IsLegalBehind ms next
  all : AreOf (before ++ line ∷ []) (ms ++ next)

rows-append : (xs ys : List EventLine) → HaveRows xs → HaveRows ys → HaveRows (xs ++ ys)
rows-append [] ys have more = more
rows-append (Insert id row ∷ xs) ys have more = (have.0, rows-append xs ys have.1 more)
rows-append (Retract id end ∷ xs) ys have more = rows-append xs ys have more
rows-append (Revise id row ∷ xs) ys have more = (have.0, rows-append xs ys have.1 more)
rows-append (Promise time ∷ xs) ys have more = rows-append xs ys have more

same_at : (n : ℕ) (test : Bool) → nat_lt n n ≡ test → test ≡ false
same_at n true is = absurd (omega (arith, ltb-true n n is))
same_at n false is = refl

-- a row that ends where it begins doesn't live
same_ends : (n : ℕ) → nat_lt n n ≡ false
same_ends n = same_at n (nat_lt n n) refl

-- the table with one more change
table-push : (r : Row) (ms : List Message) (c : Change) (old new : List Row) → count_of r old + count_of r (all_takes (changes_of ms)) ≡ count_of r (all_puts (changes_of ms))
    → count_of r new + count_of r (takes c) ≡ count_of r old + count_of r (puts c)
    → count_of r new + count_of r (all_takes (changes_of (ms ++ message.Change c ∷ []))) ≡ count_of r (all_puts (changes_of (ms ++ message.Change c ∷ [])))
table-push r ms c old new was moved =
    let changes = changes-append ms (message.Change c ∷ []) in
    omega (arith, was, moved, ap (λ cs. count_of r (all_takes cs)) changes, ap (λ cs. count_of r (all_puts cs)) changes, count_of-push r takes (changes_of ms) c, count_of-push r puts (changes_of ms) c)

-- ---- an insertion

fresh_at : (place : Option ℕ) (rows : List Row) (d : Row) (sync mark : ℕ) → cond (is_some (option_map (λ p. get_or rows p d) place)) (Some KnownId) (guarantee_fault sync mark) ≡ None
    → (place ≡ None) × (guarantee_fault sync mark ≡ None)
fresh_at None rows d sync mark h = (refl, h)
fresh_at (Some p) rows d sync mark h = cc

in_time_at : (test : Bool) (sync mark : ℕ) → nat_lt sync mark ≡ test → cond test (Some (BeforeGuarantee sync mark)) None ≡ None → mark ≤ sync
in_time_at true sync mark is h = cc
in_time_at false sync mark is h = ltb-false sync mark is

in_time : (sync mark : ℕ) → guarantee_fault sync mark ≡ None → mark ≤ sync
in_time sync mark h = in_time_at (nat_lt sync mark) sync mark refl h

follows-insert : (before : List EventLine) (ms : List Message) (id : ℕ) (row : Row) → AreOf before ms → IsAccepted before (Insert id row) → Follows before (Insert id row) ms (message.Change (Add row) ∷ [])
follows-insert before ms id row are accepted =
    let fresh = fresh_at (place_of_event id before) (rows_among before) row row.begin (guarantee_of before)
    (subst (λ event. cond (is_some event) (Some KnownId) (guarantee_fault row.begin (guarantee_of before)) ≡ None) (event_place id before row are.known) accepted.faultless) in
    let early = in_time row.begin (guarantee_of before) fresh.1 in
    let now = rows-insert id row before fresh.0 in
    record {
      legal = ((are.goes_on, (accepted.event, omega (arith, are.mark, early))), tt);
      all = record {
        goes_on = open-append ms (message.Change (Add row) ∷ []) are.goes_on tt;
        mark = omega (arith, are.mark, mark-append ms (message.Change (Add row) ∷ []), guarantee_of-append before (Insert id row ∷ []));
        table = λ r. table-push r ms (Add row) (living before) (living (before ++ Insert id row ∷ [])) (are.table r)
            (omega (arith, ap (λ rows. count_of r (filter row_lives rows)) now, living_push r row (rows_among before) accepted.event.lives));
        known = known-insert id row before are.known fresh.0;
        rows = rows-append before (Insert id row ∷ []) are.rows (accepted.event, tt);
      };
    }

-- ---- the rows of events

-- the row of no event
pub no_row : Row
no_row = record { end = 0; begin = 0; payload = [] }

least_below : (end : ℕ) (ends : List ℕ) → least_end end ends ≤ end
least_below end [] = omega arith
least_below end (other ∷ ends) = omega (arith, least_below end ends)

-- the times of a row: its begin is finite
record HasTimes (row : Row) : Type 0 where
  begins : row.begin < FOREVER
  ends : row.end ≤ FOREVER

version_times : (id : ℕ) (row : Row) (xs : List EventLine) → IsRow row → HasTimes (row_after id row xs)
version_times id row xs is = record { begins = is.begins; ends = omega (arith, is.ends, least_below row.end (ends_of id xs)) }

latest_times : (found : Option Row) (row : Row) → IfSome found HasTimes → HasTimes row → HasTimes (unwrap_or found row)
latest_times None row found times = times
latest_times (Some later) row found times = found

some_times : (test : Bool) (row : Row) (found : Option Row) → HasTimes row → IfSome found HasTimes → IfSome (cond test (Some row) found) HasTimes
some_times true row found times later = times
some_times false row found times later = later

-- the times of an event, whatever retractions of it there are
event_times : (id : ℕ) (xs : List EventLine) → HaveRows xs → IfSome (event_with id xs) HasTimes
event_times id [] have = tt
event_times id (Insert other row ∷ xs) have =
    let later = event_times id xs have.1 in
    some_times (eqb other id) (unwrap_or (event_with id xs) (row_after id row xs)) (event_with id xs) (latest_times (event_with id xs) (row_after id row xs) later (version_times id row xs have.0)) later
event_times id (Retract other end ∷ xs) have = event_times id xs have
event_times id (Revise other row ∷ xs) have =
    let later = event_times id xs have.1 in
    some_times (eqb other id) (unwrap_or (event_with id xs) (row_after id row xs)) (event_with id xs) (latest_times (event_with id xs) (row_after id row xs) later (version_times id row xs have.0)) later
event_times id (Promise time ∷ xs) have = event_times id xs have

-- and those of its row by its place
times_at : (xs : List EventLine) (p : ℕ) (d : Row) → HaveRows xs → p < length (rows_among xs) → HasTimes (get_or (rows_among xs) p d)
times_at [] p d have within = absurd (omega arith)
times_at (Insert id row ∷ xs) zero d have within = latest_times (event_with id xs) (row_after id row xs) (event_times id xs have.1) (version_times id row xs have.0)
times_at (Insert id row ∷ xs) (suc p) d have within = times_at xs p d have.1 (omega arith)
times_at (Retract id end ∷ xs) p d have within = times_at xs p d have within
times_at (Revise id row ∷ xs) p d have within = times_at xs p d have.1 within
times_at (Promise time ∷ xs) p d have within = times_at xs p d have within

-- ---- a retraction

-- a new end is right for a row after a guarantee
pub record IsEnd (row : Row) (end mark : ℕ) : Type 0 where
  pub begun : row.begin ≤ end
  pub shorter : end < row.end
  pub in_time : mark ≤ end

end_at : (low high : Bool) (row : Row) (end mark : ℕ) → nat_le row.begin end ≡ low → nat_lt end row.end ≡ high → cond (low && high) (guarantee_fault end mark) (Some (BadEnd row.begin row.end)) ≡ None → IsEnd row end mark
end_at true true row end mark is_low is_high h = record { begun = leb-true row.begin end is_low; shorter = ltb-true end row.end is_high; in_time = in_time end mark h }
end_at true false row end mark is_low is_high h = cc
end_at false high row end mark is_low is_high h = cc

-- a retraction that has no fault is of an event that was inserted
pub retracted_at : (place : Option ℕ) (rows : List Row) (end mark : ℕ) → retraction_fault (option_map (λ p. get_or rows p no_row) place) end mark ≡ None → (p : ℕ) × (place ≡ Some p) × IsEnd (get_or rows p no_row) end mark
retracted_at None rows end mark h = cc
retracted_at (Some p) rows end mark h =
    let row = get_or rows p no_row in
    (p, refl, end_at (nat_le row.begin end) (nat_lt end row.end) row end mark refl refl h)

follows-cut : (before : List EventLine) (ms : List Message) (id end p : ℕ) → AreOf before ms → place_of_event id before ≡ Some p → IsEnd (get_or (rows_among before) p no_row) end (guarantee_of before)
    → Follows before (Retract id end) ms (message.Change (Cut (get_or (rows_among before) p no_row) end) ∷ [])
follows-cut before ms id end p are at right =
    let rows = rows_among before in
    let row = get_or (rows_among before) p no_row in
    let within = place_below id before p at in
    let times = times_at before p no_row are.rows within in
    let alive : row.begin < row.end = omega (arith, right.begun, right.shorter) in
    let there = living_at rows p no_row within alive in
    let now = rows-retract id end before p no_row are.known.apart at (omega (arith, right.shorter)) in
    let change = message.Change (Cut row end) in
    record {
      legal = (
        (are.goes_on, (((record { lives = alive; begins = times.begins; ends = times.ends }, right.begun, right.shorter), omega (arith, are.table row, there)), omega (arith, are.mark, right.in_time))),
        tt,
      );
      all = record {
        goes_on = open-append ms (change ∷ []) are.goes_on tt;
        mark = omega (arith, are.mark, mark-append ms (change ∷ []), guarantee_of-append before (Retract id end ∷ []));
        table = λ r. table-push r ms (Cut row end) (living before) (living (before ++ Retract id end ∷ [])) (are.table r)
            (omega (arith, ap (λ rows. count_of r (filter row_lives rows)) now, living_cut r rows p no_row end within alive));
        known = known-retract id end p before are.known at;
        rows = rows-append before (Retract id end ∷ []) are.rows tt;
      };
    }

follows-retract : (before : List EventLine) (ms : List Message) (id end : ℕ) → AreOf before ms → IsAccepted before (Retract id end) → Follows before (Retract id end) ms (line_messages before (Retract id end))
follows-retract before ms id end are accepted =
    let rows = rows_among before in
    let event = event_place id before no_row are.known in
    let right = retracted_at (place_of_event id before) rows end (guarantee_of before) (subst (λ found. retraction_fault found end (guarantee_of before) ≡ None) event accepted.faultless) in
    let found = event ∙ ap (option_map (λ p. get_or (rows_among before) p no_row)) right.1 in
    subst (λ found. Follows before (Retract id end) ms (cut_of found end)) (sym found) (follows-cut before ms id end right.0 are right.1 right.2)

-- ---- a revision

revised_at : (place : Option ℕ) (rows : List Row) (begin mark : ℕ) → revision_fault (option_map (λ p. get_or rows p no_row) place) begin mark ≡ None → (p : ℕ) × (place ≡ Some p) × (mark ≤ revised_sync (get_or rows p no_row) begin)
revised_at None rows begin mark h = cc
revised_at (Some p) rows begin mark h = (p, refl, in_time (revised_sync (get_or rows p no_row) begin) mark h)

-- what a revision is of: an event with a row at this place, whose sync isn't below the guarantee
record Revises (before : List EventLine) (ms : List Message) (id p : ℕ) (row : Row) : Type 0 where
  are : AreOf before ms
  at : place_of_event id before ≡ Some p
  is : IsRow row
  in_time : guarantee_of before ≤ row.begin

-- the lines with a revision, where its messages have put its row in the place of the event's
revised_all : (before : List EventLine) (ms next : List Message) (id p : ℕ) (row : Row) → Revises before ms id p row → IsOpen next → mark_of next ≡ 0
    → ((r : Row) → count_of r (filter row_lives (set (rows_among before) p row)) + count_of r (all_takes (changes_of (ms ++ next))) ≡ count_of r (all_puts (changes_of (ms ++ next))))
    → AreOf (before ++ Revise id row ∷ []) (ms ++ next)
revised_all before ms next id p row r opened unmarked table = record {
  goes_on = open-append ms next r.are.goes_on opened;
  mark = omega (arith, r.are.mark, unmarked, mark-append ms next, guarantee_of-append before (Revise id row ∷ []));
  table = λ x. ap (λ rows. count_of x (filter row_lives rows) + count_of x (all_takes (changes_of (ms ++ next)))) (rows-revise id row before p r.are.known.apart r.at) ∙ table x;
  known = known-revise id p row before r.are.known r.at;
  rows = rows-append before (Revise id row ∷ []) r.are.rows (r.is, tt);
}

-- an event that lives is cut before the new row is added
follows-replace : (before : List EventLine) (ms : List Message) (id p : ℕ) (row : Row) → Revises before ms id p row
    → (get_or (rows_among before) p no_row).begin < (get_or (rows_among before) p no_row).end → guarantee_of before ≤ (get_or (rows_among before) p no_row).begin
    → Follows before (Revise id row) ms (message.Change (Cut (get_or (rows_among before) p no_row) (get_or (rows_among before) p no_row).begin) ∷ message.Change (Add row) ∷ [])
follows-replace before ms id p row r alive early =
    let rows = rows_among before in
    let old = get_or (rows_among before) p no_row in
    let within = place_below id before p r.at in
    let times = times_at before p no_row r.are.rows within in
    let there = living_at rows p no_row within alive in
    let cut = message.Change (Cut old old.begin) in
    let add = message.Change (Add row) in
    let gone = record old { end = old.begin } in
    let withdrawn : (x : Row) → count_of x (filter row_lives (cut_at p no_row old.begin rows)) + count_of x (all_takes (changes_of (ms ++ cut ∷ []))) ≡ count_of x (all_puts (changes_of (ms ++ cut ∷ []))) =
    λ x. table-push x ms (Cut old old.begin) (living before) (filter row_lives (cut_at p no_row old.begin rows)) (r.are.table x)
    (omega (arith, living_cut x rows p no_row old.begin within alive)) in
    let dead : row_lives gone ≡ false = same_ends old.begin in
    let added : (x : Row) → count_of x (filter row_lives (set rows p row)) + count_of x (all_takes (changes_of ((ms ++ cut ∷ []) ++ add ∷ []))) ≡ count_of x (all_puts (changes_of ((ms ++ cut ∷ []) ++ add ∷ []))) =
    λ x. table-push x (ms ++ cut ∷ []) (Add row) (filter row_lives (cut_at p no_row old.begin rows)) (filter row_lives (set rows p row)) (withdrawn x)
    (omega (arith, living_put x rows p gone row within dead r.is.lives, count_of-cons x row [])) in
    let opened = open-append ms (cut ∷ []) r.are.goes_on tt in
    record {
      legal = (
        (r.are.goes_on, (((record { lives = alive; begins = times.begins; ends = times.ends }, omega arith, alive), omega (arith, r.are.table old, there)), omega (arith, r.are.mark, early))),
        ((opened, (r.is, omega (arith, r.are.mark, r.in_time, mark-append ms (cut ∷ [])))), tt),
      );
      all = revised_all before ms (cut ∷ add ∷ []) id p row r tt refl
          (λ x. subst (λ all. count_of x (filter row_lives (set (rows_among before) p row)) + count_of x (all_takes (changes_of all)) ≡ count_of x (all_puts (changes_of all))) (append_assoc ms (cut ∷ []) (add ∷ [])) (added x));
    }

-- of a withdrawn event there is no row
follows-return : (before : List EventLine) (ms : List Message) (id p : ℕ) (row : Row) → Revises before ms id p row → row_lives (get_or (rows_among before) p no_row) ≡ false
    → Follows before (Revise id row) ms (message.Change (Add row) ∷ [])
follows-return before ms id p row r gone =
    let rows = rows_among before in
    let old = get_or (rows_among before) p no_row in
    let within = place_below id before p r.at in
    let put : (x : Row) → count_of x (filter row_lives (set rows p row)) ≡ count_of x (living before) + count_of x (row ∷ []) =
    λ x. omega (arith, living_put x rows p old row within gone r.is.lives, ap (λ olds. count_of x (filter row_lives olds)) (set-get_or rows p no_row), count_of-cons x row []) in
    record {
      legal = ((r.are.goes_on, (r.is, omega (arith, r.are.mark, r.in_time))), tt);
      all = revised_all before ms (message.Change (Add row) ∷ []) id p row r tt refl
          (λ x. table-push x ms (Add row) (living before) (filter row_lives (set rows p row)) (r.are.table x) (omega (arith, put x)));
    }

-- a begin that isn't below the guarantee, and the old one where the event lives
sync_at : (lives : Bool) (old begin mark : ℕ) → mark ≤ cond lives (min old begin) begin → (mark ≤ begin) × (lives ≡ true → mark ≤ old)
sync_at true old begin mark h = (omega arith, λ lives. omega arith)
sync_at false old begin mark h = (h, λ lives. cc)

follows-revise_at : (before : List EventLine) (ms : List Message) (id p : ℕ) (row : Row) (lives : Bool) → row_lives (get_or (rows_among before) p no_row) ≡ lives → Revises before ms id p row
    → (lives ≡ true → guarantee_of before ≤ (get_or (rows_among before) p no_row).begin)
    → Follows before (Revise id row) ms (cond lives (message.Change (Cut (get_or (rows_among before) p no_row) (get_or (rows_among before) p no_row).begin) ∷ []) [] ++ message.Change (Add row) ∷ [])
follows-revise_at before ms id p row true is r early =
    let old = get_or (rows_among before) p no_row in
    follows-replace before ms id p row r (ltb-true old.begin old.end is) (early refl)
follows-revise_at before ms id p row false is r early = follows-return before ms id p row r is

follows-revise : (before : List EventLine) (ms : List Message) (id : ℕ) (row : Row) → AreOf before ms → IsAccepted before (Revise id row) → Follows before (Revise id row) ms (line_messages before (Revise id row))
follows-revise before ms id row are accepted =
    let event = event_place id before no_row are.known in
    let right = revised_at (place_of_event id before) (rows_among before) row.begin (guarantee_of before) (subst (λ found. revision_fault found row.begin (guarantee_of before) ≡ None) event accepted.faultless) in
    let old = get_or (rows_among before) right.0 no_row in
    let sync = sync_at (row_lives old) old.begin row.begin (guarantee_of before) right.2 in
    let found = event ∙ ap (option_map (λ p. get_or (rows_among before) p no_row)) right.1 in
    subst (λ found. Follows before (Revise id row) ms (withdrawal_of found ++ message.Change (Add row) ∷ [])) (sym found)
    (follows-revise_at before ms id right.0 row (row_lives old) refl (record { are = are; at = right.1; is = accepted.event; in_time = sync.0 }) sync.1)

-- ---- a guarantee

follows-rise : (before : List EventLine) (ms : List Message) (time : ℕ) (rises : Bool) → nat_lt (guarantee_of before) time ≡ rises → AreOf before ms → time ≤ FOREVER
    → Follows before (Promise time) ms (cond rises (message.Mark time ∷ []) [])
follows-rise before ms time true rises are finite =
    let above = ltb-true (guarantee_of before) time rises in
    let changes = changes-append ms (message.Mark time ∷ []) ∙ append-nil (changes_of ms) in
    record {
      legal = ((are.goes_on, (omega (arith, are.mark, above), finite)), tt);
      all = record {
        goes_on = open-append ms (message.Mark time ∷ []) are.goes_on tt;
        mark = omega (arith, are.mark, mark-append ms (message.Mark time ∷ []), guarantee_of-append before (Promise time ∷ []));
        table = λ r. omega (arith, are.table r, ap (λ rows. count_of r (filter row_lives rows)) (rows-promise time before), ap (λ cs. count_of r (all_takes cs)) changes, ap (λ cs. count_of r (all_puts cs)) changes);
        known = known-promise time before are.known;
        rows = rows-append before (Promise time ∷ []) are.rows tt;
      };
    }
follows-rise before ms time false rises are finite =
    let low = ltb-false (guarantee_of before) time rises in
    record {
      legal = tt;
      all = subst (AreOf (before ++ Promise time ∷ [])) (sym (append-nil ms)) (record {
        goes_on = are.goes_on;
        mark = omega (arith, are.mark, low, guarantee_of-append before (Promise time ∷ []));
        table = λ r. omega (arith, are.table r, ap (λ rows. count_of r (filter row_lives rows)) (rows-promise time before));
        known = known-promise time before are.known;
        rows = rows-append before (Promise time ∷ []) are.rows tt;
      });
    }

-- ---- any lines

follows : (before : List EventLine) (ms : List Message) (line : EventLine) → AreOf before ms → IsAccepted before line → Follows before line ms (line_messages before line)
follows before ms (Insert id row) are accepted = follows-insert before ms id row are accepted
follows before ms (Retract id end) are accepted = follows-retract before ms id end are accepted
follows before ms (Revise id row) are accepted = follows-revise before ms id row are accepted
follows before ms (Promise time) are accepted = follows-rise before ms time (nat_lt (guarantee_of before) time) refl are accepted.event

-- legal messages that the lines became
pub record AreLegalOf (lines : List EventLine) (before ms : List Message) : Type 0 where
  pub legal : IsLegalBehind before ms
  pub all : AreOf lines (before ++ ms)

-- accepted lines after others become legal messages after theirs
follow : (before : List EventLine) (ms : List Message) (lines : List EventLine) → AreOf before ms → AreAcceptedBehind before lines → AreLegalOf (before ++ lines) ms (messages_behind before lines)
follow before ms [] are accepted = record { legal = tt; all = subst₂ AreOf (sym (append-nil before)) (sym (append-nil ms)) are }
follow before ms (line ∷ lines) are accepted =
    let first = follows before ms line are accepted.0 in
    let next = line_messages before line in
    let rest = follow (before ++ line ∷ []) (ms ++ next) lines first.all accepted.1 in
    record {
      legal = legal-append ms next (messages_behind (before ++ line ∷ []) lines) first.legal rest.legal;
      all = subst₂ AreOf (append_assoc before (line ∷ []) lines) (append_assoc ms next (messages_behind (before ++ line ∷ []) lines)) rest.all;
    }

no_lines : AreOf [] []
no_lines = record { goes_on = tt; mark = refl; table = λ r. refl; known = record { apart = tt; known = λ id none. refl; events = λ id none. refl }; rows = tt }

-- accepted lines become legal messages
pub accepted_messages : (lines : List EventLine) → AreAccepted lines → AreLegalOf lines [] (messages_behind [] lines)
accepted_messages lines accepted = follow [] [] lines no_lines accepted

-- the table of messages that lines became is the canonical history of the lines
pub table_is_history : (lines : List EventLine) (ms : List Message) → AreOf lines ms → IsTableOf ms (history_of lines)
table_is_history lines ms are = record { sums = record { each = λ r. omega (arith, are.table r, count_of-append r (history_of lines) (all_takes (changes_of ms)), in_order_count r (living lines)) } }

-- ---- one more line

messages-behind : (before lines : List EventLine) (line : EventLine) → messages_behind before (lines ++ line ∷ []) ≡ messages_behind before lines ++ line_messages (before ++ lines) line
messages-behind before [] line = append-nil (line_messages before line) ∙ ap (λ front. line_messages front line) (sym (append-nil before))
messages-behind before (first ∷ lines) line =
    ap (λ ms. line_messages before first ++ ms) (messages-behind (before ++ first ∷ []) lines line)
    ∙ (sym (append_assoc (line_messages before first) (messages_behind (before ++ first ∷ []) lines) (line_messages ((before ++ first ∷ []) ++ lines) line))
    ∙ ap (λ front. (line_messages before first ++ messages_behind (before ++ first ∷ []) lines) ++ line_messages front line) (append_assoc before (first ∷ []) lines))

-- the messages of lines with one more are theirs and then that one's
pub messages-more : (lines : List EventLine) (line : EventLine) → messages_behind [] (lines ++ line ∷ []) ≡ messages_behind [] lines ++ line_messages lines line
messages-more lines line = messages-behind [] lines line
