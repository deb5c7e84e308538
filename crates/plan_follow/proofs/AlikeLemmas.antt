-- What is remembered of lines knows the open events of all of them: so a line has the same messages behind both.
use Rattle.std.proofs.Common.{◌≡◌, ℕ, ◌≤◌, List, [], ◌∷◌, ◌++◌, Bool, true, false, cond, eqb, Option, None, Some, refl, ap, sym, ◌∙◌, subst, arith}
use Rattle.std.specs.Prelude.{option_map, is_some, nat_lt}
use Rattle.std.proofs.lemmas.Bool.{ltb-true, ltb-false, lt-ltb, le-ltb}
use Rattle.cedr_base.specs.declared.row.Row.{Row}
use Rattle.cedr_base.specs.declared.change.Change.TheVariants.{Add}
use Rattle.cedr_base.specs.declared.change.Message.{Message}
use Rattle.cedr_base.specs.declared.change.Message.TheVariants as message
use Rattle.cedr_guard.proofs.EventLemmas.{guarantee_of-append, event-push}
use Rattle.cedr_guard.proofs.SpeltLemmas.{accepted-append}
use Rattle.cedr_guard.specs.Judging.{guarantee_of, event_with, row_lives, guarantee_fault, retraction_fault, revision_fault, IsAccepted, AreAccepted}
use Rattle.cedr_guard.specs.Messages.{line_messages}
use Rattle.cedr_guard.specs.Spelt.{State}
use Rattle.cedr_guard.specs.States.{as_it_is, known_of, SameState}
use Rattle.cedr_text.specs.declared.event_line.EventLine.{EventLine}
use Rattle.cedr_text.specs.declared.event_line.EventLine.TheVariants.{Insert, Retract, Revise, Promise}
use Rattle.cedr_text.specs.declared.fault.LineFault.{LineFault}
use Rattle.cedr_text.specs.declared.fault.LineFault.TheVariants.{KnownId}
use Rattle.open_events.specs.Endings.{still_open}
use Rattle.plan_follow.specs.Sifted.{left_of}
use Rattle.source_memory.proofs.MemoryLemmas.{remembers_left}
use Rattle.source_memory.proofs.OpenLemmas.{IsWithin, within_row, not_late, revised_late, cut_known, withdrawal_known, fault-retract, fault-revise, KnowsPut, known_inserted, known_revised, known_retracted, known_left}
use Rattle.source_memory.specs.Remembered.{remembered_lines, kept_with}

-- these lines know of others what is open, and nothing else
pub record KnowsOpen (kept lines : List EventLine) : Type 0 where
  pub mine : AreAccepted kept
  pub theirs : AreAccepted lines
  pub mark : guarantee_of kept ≡ guarantee_of lines
  pub events : (id : ℕ) → known_of id kept ≡ still_open (guarantee_of lines) (known_of id lines)

-- ---- what is open

open_late : (time : ℕ) (row : Row) → time ≤ row.end → still_open time (Some row) ≡ Some row
open_late time row late = ap (λ (b : Bool). cond b None (Some row)) (le-ltb row.end time late)

open_found_at : (time : ℕ) (r row : Row) (b : Bool) → cond b None (Some r) ≡ Some row → Some r ≡ Some row
open_found_at time r row true is = absurd (let e = is in cc)
open_found_at time r row false is = is

-- what is open was there
open_found : (time : ℕ) (found : Option Row) (row : Row) → still_open time found ≡ Some row → found ≡ Some row
open_found time None row is = is
open_found time (Some r) row is = open_found_at time r row (nat_lt r.end time) is

open_twice_at : (low high : ℕ) (row : Row) (b : Bool) → nat_lt row.end low ≡ b → low ≤ high → still_open high (cond b None (Some row)) ≡ still_open high (Some row)
open_twice_at low high row true over up = sym (ap (λ (b : Bool). cond b None (Some row)) (lt-ltb row.end high (let early = ltb-true row.end low over in omega arith)))
open_twice_at low high row false over up = refl

-- what is open at a time is what is still open of what was at an earlier one
open_twice : (low high : ℕ) (found : Option Row) → low ≤ high → still_open high (still_open low found) ≡ still_open high found
open_twice low high None up = refl
open_twice low high (Some row) up = open_twice_at low high row (nat_lt row.end low) refl up

open_put : (b : Bool) (time : ℕ) (row : Row) (found : Option Row) → time ≤ row.end → cond b (Some row) (still_open time found) ≡ still_open time (cond b (Some row) found)
open_put true time row found late = sym (open_late time row late)
open_put false time row found late = refl

-- ---- a line without a fault

no_fault_here : (b : Bool) (late : Option LineFault) → cond b (Some KnownId) late ≡ None → late ≡ None
no_fault_here true late none = absurd (let e = none in cc)
no_fault_here false late none = none

retracts_row : (found : Option Row) (end mark : ℕ) → retraction_fault found end mark ≡ None → (row : Row) × (found ≡ Some row) × IsWithin row end mark
retracts_row None end mark none = absurd (let e = none in cc)
retracts_row (Some row) end mark none = (row, refl, within_row row end mark none)

revises_row : (found : Option Row) (begin mark : ℕ) → revision_fault found begin mark ≡ None → (row : Row) × (found ≡ Some row) × (mark ≤ begin)
revises_row None begin mark none = absurd (let e = none in cc)
revises_row (Some row) begin mark none = (row, refl, revised_late row begin mark none)

end_kept : (row : Row) (b : Bool) → (cond b row (record row { payload = [] })).end ≡ row.end
end_kept row true = refl
end_kept row false = refl

-- ---- the lines with one more

with_one : (lines : List EventLine) (line : EventLine) → AreAccepted lines → IsAccepted lines line → AreAccepted (lines ++ line ∷ [])
with_one lines line accepted more = accepted-append [] lines (line ∷ []) accepted (more, tt)

-- the messages are the same, and then still what is open is known
pub record TakesAlike (kept lines : List EventLine) (line : EventLine) : Type 0 where
  pub messages : line_messages kept line ≡ line_messages lines line
  pub knows : KnowsOpen (kept_with kept line) (lines ++ line ∷ [])

-- a line that puts a row where nothing of it is over
knows_put : (kept lines : List EventLine) (line : EventLine) (id : ℕ) (row : Row) → KnowsOpen kept lines → IsAccepted kept line → IsAccepted lines line → KnowsPut kept line id row → KnowsPut lines line id row → guarantee_of (line ∷ []) ≡ 0 → guarantee_of lines ≤ row.end
    → KnowsOpen (kept ++ line ∷ []) (lines ++ line ∷ [])
knows_put kept lines line id row k mine theirs put others unmarked late =
    let same : guarantee_of (lines ++ line ∷ []) ≡ guarantee_of lines = omega (arith, guarantee_of-append lines (line ∷ []), unmarked) in
    record {
      mine = with_one kept line k.mine mine;
      theirs = with_one lines line k.theirs theirs;
      mark = omega (arith, guarantee_of-append kept (line ∷ []), guarantee_of-append lines (line ∷ []), k.mark);
      events = λ q.
          put q
          ∙ (ap (λ (o : Option Row). cond (eqb id q) (Some row) o) (k.events q)
          ∙ (open_put (eqb id q) (guarantee_of lines) row (known_of q lines) late
          ∙ (ap (still_open (guarantee_of lines)) (sym (others q)) ∙ ap (λ (m : ℕ). still_open m (known_of q (lines ++ line ∷ []))) (sym same))));
    }

promised : (lines : List EventLine) (time q : ℕ) → known_of q (lines ++ Promise time ∷ []) ≡ known_of q lines
promised lines time q = ap (option_map as_it_is) (event-push q lines (Promise time))

-- a guarantee leaves both with what is open then
knows_promised : (kept lines : List EventLine) (time : ℕ) → KnowsOpen kept lines → IsAccepted kept (Promise time) → IsAccepted lines (Promise time) → (b : Bool) → nat_lt (guarantee_of kept) time ≡ b
    → KnowsOpen (cond b (remembered_lines (kept ++ Promise time ∷ [])) (kept ++ Promise time ∷ [])) (lines ++ Promise time ∷ [])
knows_promised kept lines time k mine theirs true rises =
    let now = kept ++ Promise time ∷ [] in
    let accepted = with_one kept (Promise time) k.mine mine in
    let left = remembers_left now accepted in
    let up = ltb-true (guarantee_of kept) time rises in
    let risen : guarantee_of now ≡ time = omega (arith, guarantee_of-append kept (Promise time ∷ [])) in
    let others : guarantee_of (lines ++ Promise time ∷ []) ≡ time = omega (arith, guarantee_of-append lines (Promise time ∷ []), k.mark) in
    record {
      mine = left.accepted;
      theirs = with_one lines (Promise time) k.theirs theirs;
      mark = ap (λ (s : State). s.mark) left.state ∙ (risen ∙ sym others);
      events = λ q.
          known_left now accepted q
          ∙ (ap (λ (m : ℕ). still_open m (known_of q now)) risen
          ∙ (ap (still_open time) (promised kept time q ∙ k.events q)
          ∙ (open_twice (guarantee_of lines) time (known_of q lines) (omega (arith, k.mark, up))
          ∙ (ap (still_open time) (sym (promised lines time q)) ∙ ap (λ (m : ℕ). still_open m (known_of q (lines ++ Promise time ∷ []))) (sym others)))));
    }
knows_promised kept lines time k mine theirs false rises =
    let low = ltb-false (guarantee_of kept) time rises in
    let same : guarantee_of (lines ++ Promise time ∷ []) ≡ guarantee_of lines = omega (arith, guarantee_of-append lines (Promise time ∷ []), k.mark, low) in
    record {
      mine = with_one kept (Promise time) k.mine mine;
      theirs = with_one lines (Promise time) k.theirs theirs;
      mark = omega (arith, guarantee_of-append kept (Promise time ∷ []), guarantee_of-append lines (Promise time ∷ []), k.mark);
      events = λ q.
          promised kept time q
          ∙ (k.events q ∙ (ap (still_open (guarantee_of lines)) (sym (promised lines time q)) ∙ ap (λ (m : ℕ). still_open m (known_of q (lines ++ Promise time ∷ []))) (sym same)));
    }

-- a line that is accepted behind both
pub takes_alike : (kept lines : List EventLine) (line : EventLine) → KnowsOpen kept lines → IsAccepted kept line → IsAccepted lines line → TakesAlike kept lines line
takes_alike kept lines (Insert id row) k mine theirs =
    let lives = mine.event.lives in
    let late = not_late row.begin (guarantee_of lines) (no_fault_here (is_some (event_with id lines)) (guarantee_fault row.begin (guarantee_of lines)) theirs.faultless) in
    let living = lt-ltb row.begin row.end lives in
    record {
      messages = refl;
      knows = knows_put kept lines (Insert id row) id row k mine theirs (known_inserted kept id row living) (known_inserted lines id row living) refl (omega arith);
    }
takes_alike kept lines (Retract id end) k mine theirs =
    let there = retracts_row (known_of id lines) end (guarantee_of lines) (sym (fault-retract lines id end (known_of id lines) refl) ∙ theirs.faultless) in
    let row = there.0 in
    let within = there.2 in
    let late = within.late in
    let ends = within.ends in
    let here : known_of id kept ≡ Some row = k.events id ∙ (ap (still_open (guarantee_of lines)) there.1 ∙ open_late (guarantee_of lines) row (omega arith)) in
    let within_kept : IsWithin row end (guarantee_of kept) = subst (IsWithin row end) (sym k.mark) within in
    let cut : Row = record row { end = end } in
    record {
      messages = cut_known kept id end row here within_kept ∙ sym (cut_known lines id end row there.1 within);
      knows =
          knows_put kept lines (Retract id end) id (as_it_is cut) k mine theirs (known_retracted kept id end row here within_kept) (known_retracted lines id end row there.1 within) refl
          (let same = end_kept cut (row_lives cut) in omega arith);
    }
takes_alike kept lines (Revise id row) k mine theirs =
    let there = revises_row (known_of id kept) row.begin (guarantee_of kept) (sym (fault-revise kept id row (known_of id kept) refl) ∙ mine.faultless) in
    let old = there.0 in
    let late = there.2 in
    let lives = mine.event.lives in
    let others : known_of id lines ≡ Some old = open_found (guarantee_of lines) (known_of id lines) old (sym (k.events id) ∙ there.1) in
    let living = lt-ltb row.begin row.end lives in
    record {
      messages = ap (λ (ms : List Message). ms ++ message.Change (Add row) ∷ []) (withdrawal_known kept id old (row_lives old) there.1 refl ∙ sym (withdrawal_known lines id old (row_lives old) others refl));
      knows = knows_put kept lines (Revise id row) id row k mine theirs (known_revised kept id row living) (known_revised lines id row living) refl (omega (arith, k.mark, late, lives));
    }
takes_alike kept lines (Promise time) k mine theirs = record {
  messages = ap (λ (m : ℕ). cond (nat_lt m time) (message.Mark time ∷ []) []) k.mark;
  knows = knows_promised kept lines time k mine theirs (nat_lt (guarantee_of kept) time) refl;
}

-- ---- before the first line

-- what is remembered of lines knows their open events
pub left_knows : (lines : List EventLine) → AreAccepted lines → KnowsOpen (left_of lines) lines
left_knows [] accepted = record { mine = tt; theirs = tt; mark = refl; events = λ id. refl }
left_knows (line ∷ lines) accepted =
    let left = remembers_left (line ∷ lines) accepted in
    record {
      mine = left.accepted;
      theirs = accepted;
      mark = ap (λ (s : State). s.mark) left.state;
      events = known_left (line ∷ lines) accepted;
    }

-- two that know the open events of lines of the same state know the same
pub know_same : (kept kept' lines lines' : List EventLine) → KnowsOpen kept lines → KnowsOpen kept' lines' → SameState lines lines' → SameState kept kept'
know_same kept kept' lines lines' k k' same = record {
  mark = k.mark ∙ (same.mark ∙ sym k'.mark);
  events = λ id. k.events id ∙ (ap (λ (m : ℕ). still_open m (known_of id lines)) same.mark ∙ (ap (still_open (guarantee_of lines')) (same.events id) ∙ sym (k'.events id)));
}
