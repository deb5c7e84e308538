-- The messages of the lines that a state spells.
use Rattle.std.proofs.Common.{◌≡◌, ℕ, ◌+◌, ◌<◌, ◌≤◌, List, [], ◌∷◌, ◌++◌, Bool, true, false, cond, eqb, length, get_or, take, Option, None, Some, refl, ap, sym, ◌∙◌, subst, arith, append_assoc, append-nil}
use Rattle.std.specs.Prelude.{nat_lt, option_map}
use Rattle.std.proofs.lemmas.Bool.{eqb-true, lt-ltb, le-ltb}
use Rattle.std.proofs.lemmas.List.{take_more}
use Rattle.cedr_base.specs.declared.row.Row.{Row}
use Rattle.cedr_base.specs.declared.change.Change.TheVariants.{Add, Cut}
use Rattle.cedr_base.specs.declared.change.Message.{Message}
use Rattle.cedr_base.specs.declared.change.Message.TheVariants as message
use Rattle.cedr_text.specs.declared.event_line.EventLine.{EventLine}
use Rattle.cedr_text.specs.declared.event_line.EventLine.TheVariants.{Insert, Retract, Promise}
use Rattle.cedr_guard.specs.declared.state.EventState.{EventState}
use Rattle.cedr_guard.specs.Judging.{guarantee_of, event_with, row_lives}
use Rattle.cedr_guard.specs.Messages.{cut_of, messages_behind}
use Rattle.cedr_guard.specs.Spelt.{State, state_row, row_of_id, inserted_row, inserts, retracts, lines_of, IsFit}
use Rattle.cedr_guard.proofs.EventLemmas.{guarantee_of-append, ended, event-push}
use Rattle.cedr_guard.proofs.SpeltLemmas.{AreDistinct, find_first, find_later, not_first, can_restore}
use Rattle.plan_live.specs.Restoring.{insertions, withdrawals}

-- ---- insertions

-- what insertions become, whatever comes before and after them
insert_messages : (before : List EventLine) (es : List EventState) (rest : List EventLine) → messages_behind before (inserts es ++ rest) ≡ insertions es ++ messages_behind (before ++ inserts es) rest
insert_messages before [] rest = ap (λ (b : List EventLine). messages_behind b rest) (sym (append-nil before))
insert_messages before (e ∷ es) rest =
    let line = Insert e.id (inserted_row (state_row e)) in
    ap (λ (ms : List Message). message.Change (Add (inserted_row (state_row e))) ∷ ms)
    (insert_messages (before ++ line ∷ []) es rest ∙ ap (λ (b : List EventLine). insertions es ++ messages_behind b rest) (append_assoc before (line ∷ []) (inserts es)))

none_parts : (b : Bool) (row : Row) (rest : Option Row) → cond b (Some row) rest ≡ None → (b ≡ false) × (rest ≡ None)
none_parts true row rest h = absurd (let e = h in cc)
none_parts false row rest h = (refl, h)

-- an event that none of them inserts is as before
not_inserted : (before : List EventLine) (es : List EventState) (id : ℕ) → row_of_id id es ≡ None → event_with id (before ++ inserts es) ≡ event_with id before
not_inserted before [] id none = ap (event_with id) (append-nil before)
not_inserted before (e ∷ es) id none =
    let parts = none_parts (eqb e.id id) (state_row e) (row_of_id id es) none in
    let line = Insert e.id (inserted_row (state_row e)) in
    sym (ap (event_with id) (append_assoc before (line ∷ []) (inserts es)))
    ∙ (not_inserted (before ++ line ∷ []) es id parts.1 ∙ (event-push id before line ∙ ap (λ (b : Bool). cond b (Some (inserted_row (state_row e))) (event_with id before)) parts.0))

found_row : (b : Bool) (first row : Row) (rest event : Option Row) → cond b (Some first) rest ≡ Some row → (b ≡ true → event ≡ Some (inserted_row first)) → (rest ≡ Some row → event ≡ Some (inserted_row row)) → event ≡ Some (inserted_row row)
found_row true first row rest event is here later = here refl ∙ ap (option_map inserted_row) is
found_row false first row rest event is here later = later is

-- and each that one of them inserts has its row
inserted : (before : List EventLine) (es : List EventState) → AreDistinct es → (id : ℕ) (row : Row) → row_of_id id es ≡ Some row → event_with id (before ++ inserts es) ≡ Some (inserted_row row)
inserted before [] distinct id row there = absurd (let h = there in cc)
inserted before (e ∷ es) distinct id row there =
    let line = Insert e.id (inserted_row (state_row e)) in
    let along = sym (ap (event_with id) (append_assoc before (line ∷ []) (inserts es))) in
    found_row (eqb e.id id) (state_row e) row (row_of_id id es) _ there
    (λ here.
    along
    ∙ (not_inserted (before ++ line ∷ []) es id (subst (λ (i : ℕ). row_of_id i es ≡ None) (eqb-true e.id id here) distinct.0)
    ∙ (event-push id before line ∙ ap (λ (b : Bool). cond b (Some (inserted_row (state_row e))) (event_with id before)) here)))
    (λ is. along ∙ inserted (before ++ line ∷ []) es distinct.1 id row is)

-- ---- retractions

-- these events are there, as they were inserted
abbrev AreInserted : List EventLine → List EventState → Type 0
AreInserted before es = (id : ℕ) (row : Row) → row_of_id id es ≡ Some row → event_with id before ≡ Some (inserted_row row)

-- a retraction of another event changes none of them
still_inserted : (before : List EventLine) (e : EventState) (es : List EventState) → AreDistinct (e ∷ es) → AreInserted before (e ∷ es) → AreInserted (before ++ Retract e.id e.begin ∷ []) es
still_inserted before e es distinct there id row is =
    event-push id before (Retract e.id e.begin)
    ∙ (ap (λ (b : Bool). cond b (option_map (ended e.begin) (event_with id before)) (event_with id before)) (not_first e es id row distinct.0 is) ∙ there id row (find_later e es id row distinct.0 is))

retract_at : (b : Bool) (before : List EventLine) (e : EventState) (es : List EventState) (rest : List EventLine)
    → messages_behind before (retracts es ++ rest) ≡ withdrawals es ++ messages_behind (before ++ retracts es) rest
    → messages_behind before (Retract e.id e.begin ∷ retracts es ++ rest) ≡ message.Change (Cut (inserted_row (state_row e)) e.begin) ∷ withdrawals es ++ messages_behind (before ++ Retract e.id e.begin ∷ retracts es) rest
    → messages_behind before (cond b (retracts es) (Retract e.id e.begin ∷ retracts es) ++ rest)
    ≡ cond b (withdrawals es) (message.Change (Cut (inserted_row (state_row e)) e.begin) ∷ withdrawals es) ++ messages_behind (before ++ cond b (retracts es) (Retract e.id e.begin ∷ retracts es)) rest
retract_at true before e es rest lives gone = lives
retract_at false before e es rest lives gone = gone

-- what the retractions of withdrawn events become
retract_messages : (before : List EventLine) (es : List EventState) (rest : List EventLine) → AreDistinct es → AreInserted before es → messages_behind before (retracts es ++ rest) ≡ withdrawals es ++ messages_behind (before ++ retracts es) rest
retract_messages before [] rest distinct there = ap (λ (b : List EventLine). messages_behind b rest) (sym (append-nil before))
retract_messages before (e ∷ es) rest distinct there =
    let line = Retract e.id e.begin in
    retract_at (row_lives (state_row e)) before e es rest (retract_messages before es rest distinct.1 (λ id row is. there id row (find_later e es id row distinct.0 is)))
    (ap (λ (event : Option Row). cut_of event e.begin ++ messages_behind (before ++ line ∷ []) (retracts es ++ rest)) (there e.id (state_row e) (find_first e es))
    ∙ ap (λ (ms : List Message). message.Change (Cut (inserted_row (state_row e)) e.begin) ∷ ms)
    (retract_messages (before ++ line ∷ []) es rest distinct.1 (still_inserted before e es distinct there)
    ∙ ap (λ (b : List EventLine). withdrawals es ++ messages_behind b rest) (append_assoc before (line ∷ []) (retracts es))))

-- ---- the guarantee

inserts_mark : (es : List EventState) → guarantee_of (inserts es) ≡ 0
inserts_mark [] = refl
inserts_mark (e ∷ es) = inserts_mark es

mark_at : (b : Bool) (lines : List EventLine) (id end : ℕ) → guarantee_of lines ≡ 0 → guarantee_of (cond b lines (Retract id end ∷ lines)) ≡ 0
mark_at true lines id end none = none
mark_at false lines id end none = none

retracts_mark : (es : List EventState) → guarantee_of (retracts es) ≡ 0
retracts_mark [] = refl
retracts_mark (e ∷ es) = mark_at (row_lives (state_row e)) (retracts es) e.id e.begin (retracts_mark es)

-- the messages of a fit state: insertions, then retractions, then its guarantee where that is above 0
pub state_messages_are : (state : State) → IsFit state → messages_behind [] (lines_of state) ≡ (insertions state.events ++ withdrawals state.events) ++ cond (nat_lt 0 state.mark) (message.Mark state.mark ∷ []) []
state_messages_are state fit =
    let es = state.events in
    let last : List EventLine = Promise state.mark ∷ [] in
    let distinct = (can_restore state fit).distinct in
    let none : guarantee_of (inserts es ++ retracts es) ≡ 0 = omega (arith, guarantee_of-append (inserts es) (retracts es), inserts_mark es, retracts_mark es) in
    ap (messages_behind []) (append_assoc (inserts es) (retracts es) last)
    ∙ (insert_messages [] es (retracts es ++ last)
    ∙ (ap (λ (ms : List Message). insertions es ++ ms)
    (retract_messages (inserts es) es last distinct (inserted [] es distinct)
    ∙ ap (λ (ms : List Message). withdrawals es ++ ms) (append-nil (cond (nat_lt (guarantee_of (inserts es ++ retracts es)) state.mark) (message.Mark state.mark ∷ []) []) ∙ ap (λ (g : ℕ). cond (nat_lt g state.mark) (message.Mark state.mark ∷ []) []) none))
    ∙ sym (append_assoc (insertions es) (withdrawals es) (cond (nat_lt 0 state.mark) (message.Mark state.mark ∷ []) []))))

-- ---- events one after the other

push_at : (b : Bool) (m : Message) (all before more : List Message) → all ≡ before ++ more → cond b all (m ∷ all) ≡ cond b before (m ∷ before) ++ more
push_at true m all before more h = h
push_at false m all before more h = ap (λ (ms : List Message). m ∷ ms) h

withdrawals-push : (es : List EventState) (e : EventState) → withdrawals (es ++ e ∷ []) ≡ withdrawals es ++ withdrawals (e ∷ [])
withdrawals-push [] e = refl
withdrawals-push (x ∷ es) e = push_at (row_lives (state_row x)) (message.Change (Cut (inserted_row (state_row x)) x.begin)) (withdrawals (es ++ e ∷ [])) (withdrawals es) (withdrawals (e ∷ [])) (withdrawals-push es e)

module _ (events : List EventState) (i : ℕ) (e : EventState) (messages before : List Message) (within : i < length events) (at : get_or events i e ≡ e) (so_far : messages ≡ before ++ withdrawals (take i events)) where
  one_more : withdrawals (take (i + 1) events) ≡ withdrawals (take i events) ++ withdrawals (e ∷ [])
  one_more = ap withdrawals (take_more events i e within ∙ ap (λ (x : EventState). take i events ++ x ∷ []) at) ∙ withdrawals-push (take i events) e

  -- an event that lives has no retraction
  pub living_more : e.begin < e.end → messages ≡ before ++ withdrawals (take (i + 1) events)
  living_more lives =
      so_far
      ∙ ap (λ (ms : List Message). before ++ ms)
      (sym (one_more ∙ (ap (λ (b : Bool). withdrawals (take i events) ++ cond b [] (message.Change (Cut (inserted_row (state_row e)) e.begin) ∷ [])) (lt-ltb e.begin e.end lives) ∙ append-nil (withdrawals (take i events)))))

  -- and any other one has
  pub gone_more : (now : List Message) → e.end ≤ e.begin → now ≡ messages ++ message.Change (Cut (inserted_row (state_row e)) e.begin) ∷ [] → now ≡ before ++ withdrawals (take (i + 1) events)
  gone_more now gone is =
      let cut : List Message = message.Change (Cut (inserted_row (state_row e)) e.begin) ∷ [] in
      is
      ∙ (ap (λ (ms : List Message). ms ++ cut) so_far
      ∙ (append_assoc before (withdrawals (take i events)) cut
      ∙ ap (λ (ms : List Message). before ++ ms) (sym (one_more ∙ ap (λ (b : Bool). withdrawals (take i events) ++ cond b [] cut) (le-ltb e.begin e.end gone)))))

-- the messages of a state, where its insertions, its retractions and its guarantee were appended
pub appended_are : (state : State) → IsFit state → (none first second : List Message) → none ≡ [] → first ≡ none ++ insertions state.events → second ≡ first ++ withdrawals state.events
    → second ++ cond (nat_lt 0 state.mark) (message.Mark state.mark ∷ []) [] ≡ messages_behind [] (lines_of state)
appended_are state fit none first second empty one two =
    ap (λ (ms : List Message). ms ++ cond (nat_lt 0 state.mark) (message.Mark state.mark ∷ []) [])
    (two ∙ ap (λ (ms : List Message). ms ++ withdrawals state.events) (one ∙ ap (λ (ms : List Message). ms ++ insertions state.events) empty))
    ∙ sym (state_messages_are state fit)
