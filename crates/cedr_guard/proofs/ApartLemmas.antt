-- Accepted lines are apart: no id is inserted twice, and no line is about an id that isn't inserted.
use Rattle.std.proofs.Common.{◌≡◌, ℕ, List, [], ◌∷◌, ◌++◌, Bool, true, false, cond, eqb, length, Option, None, Some, refl, ap, sym, ◌∙◌, subst}
use Rattle.std.specs.Prelude.{option_map}
use Rattle.std.specs.Option.{option_or}
use Rattle.std.proofs.lemmas.Bool.{eqb-true}
use Rattle.std.proofs.lemmas.List.{append-nil}
use Rattle.cedr_base.specs.declared.row.Row.{Row}
use Rattle.cedr_text.specs.declared.event_line.EventLine.{EventLine}
use Rattle.cedr_text.specs.declared.event_line.EventLine.TheVariants.{Insert, Retract, Revise, Promise}
use Rattle.cedr_guard.specs.Judging.{ends_of, event_with}
use Rattle.cedr_guard.specs.History.{rows_among}
use Rattle.cedr_guard.specs.Standing.{place_of_event, AreApart, AreKnown}
use Rattle.cedr_guard.proofs.EventLemmas.{ends_of-append, event-push, ended, place_of-insert, place_of-push, no_place, flipped, InsertsNone}

-- ---- no id twice

apart-insert : (id : ℕ) (row : Row) (xs : List EventLine) → AreApart xs → place_of_event id xs ≡ None → AreApart (xs ++ Insert id row ∷ [])
apart-insert id row [] apart none = (refl, tt)
apart-insert id row (Insert first r ∷ xs) apart none =
    let parts = no_place (eqb first id) (place_of_event id xs) none in
    let first_none : place_of_event first (xs ++ Insert id row ∷ []) ≡ None =
    place_of-insert first id row xs
    ∙ (ap (λ place. option_or place (cond (eqb id first) (Some (length (rows_among xs))) None)) apart.0
    ∙ ap (λ test. cond test (Some (length (rows_among xs))) None) (flipped first id false parts.0)) in
    (first_none, apart-insert id row xs apart.1 parts.1)
apart-insert id row (Retract first end ∷ xs) apart none = apart-insert id row xs apart none
apart-insert id row (Revise first r ∷ xs) apart none = apart-insert id row xs apart none
apart-insert id row (Promise time ∷ xs) apart none = apart-insert id row xs apart none

alone : (line : EventLine) → InsertsNone line → AreApart (line ∷ [])
alone (Insert id row) inserts = absurd inserts
alone (Retract id end) inserts = tt
alone (Revise id row) inserts = tt
alone (Promise time) inserts = tt

apart-push : (line : EventLine) (xs : List EventLine) → InsertsNone line → AreApart xs → AreApart (xs ++ line ∷ [])
apart-push line [] inserts apart = alone line inserts
apart-push line (Insert first r ∷ xs) inserts apart = (place_of-push first line xs inserts ∙ apart.0, apart-push line xs inserts apart.1)
apart-push line (Retract first e ∷ xs) inserts apart = apart-push line xs inserts apart
apart-push line (Revise first r ∷ xs) inserts apart = apart-push line xs inserts apart
apart-push line (Promise t ∷ xs) inserts apart = apart-push line xs inserts apart

-- ---- one more insertion

no_place_before : (first other : Option ℕ) → option_or first other ≡ None → (first ≡ None) × (other ≡ None)
no_place_before None other h = (refl, h)
no_place_before (Some place) other h = cc

other_at : (test : Bool) (n : ℕ) → cond test (Some n) None ≡ None → test ≡ false
other_at true n h = cc
other_at false n h = refl

-- an id that has no place with one more insertion had none before, and isn't the inserted one
not_inserted : (q id : ℕ) (row : Row) (before : List EventLine) → place_of_event q (before ++ Insert id row ∷ []) ≡ None → (place_of_event q before ≡ None) × (eqb id q ≡ false)
not_inserted q id row before nowhere =
    let parts = no_place_before (place_of_event q before) _ (sym (place_of-insert q id row before) ∙ nowhere) in
    (parts.0, other_at (eqb id q) (length (rows_among before)) parts.1)

no_version : (test : Bool) (row : Row) (found : Option Row) → test ≡ false → found ≡ None → cond test (Some row) found ≡ None
no_version true row found is none = cc
no_version false row found is none = none

-- an id that wasn't inserted is
pub known-insert : (id : ℕ) (row : Row) (before : List EventLine) → AreKnown before → place_of_event id before ≡ None → AreKnown (before ++ Insert id row ∷ [])
known-insert id row before are none = record {
  apart = apart-insert id row before are.apart none;
  known = λ q nowhere.
      let parts = not_inserted q id row before nowhere in
      ends_of-append q before (Insert id row ∷ []) ∙ (append-nil (ends_of q before) ∙ are.known q parts.0);
  events = λ q nowhere.
      let parts = not_inserted q id row before nowhere in
      event-push q before (Insert id row) ∙ no_version (eqb id q) row (event_with q before) parts.1 (are.events q parts.0);
}

-- ---- one more retraction

-- an id without a place isn't one with a place
apart_from : (id q p : ℕ) (before : List EventLine) → place_of_event id before ≡ Some p → place_of_event q before ≡ None → (t : Bool) → eqb id q ≡ t → t ≡ false
apart_from id q p before at nowhere true h = let same = subst (λ (i : ℕ). place_of_event i before ≡ Some p) (eqb-true id q h) at in cc
apart_from id q p before at nowhere false h = refl

no_end : (test : Bool) (end : ℕ) (ends : List ℕ) → test ≡ false → ends ≡ [] → ◌≡◌ {A = List ℕ} (ends ++ cond test (end ∷ []) []) []
no_end true end ends is none = cc
no_end false end ends is none = append-nil ends ∙ none

no_event : (test : Bool) (end : ℕ) (found : Option Row) → found ≡ None → cond test (option_map (ended end) found) found ≡ None
no_event true end found none = ap (option_map (ended end)) none
no_event false end found none = none

-- an inserted id may be retracted
pub known-retract : (id end p : ℕ) (before : List EventLine) → AreKnown before → place_of_event id before ≡ Some p → AreKnown (before ++ Retract id end ∷ [])
known-retract id end p before are at = record {
  apart = apart-push (Retract id end) before tt are.apart;
  known = λ q nowhere.
      let none = sym (place_of-push q (Retract id end) before tt) ∙ nowhere in
      ends_of-append q before (Retract id end ∷ []) ∙ no_end (eqb id q) end (ends_of q before) (apart_from id q p before at none (eqb id q) refl) (are.known q none);
  events = λ q nowhere.
      let none = sym (place_of-push q (Retract id end) before tt) ∙ nowhere in
      event-push q before (Retract id end) ∙ no_event (eqb id q) end (event_with q before) (are.events q none);
}

-- ---- one more revision

-- an inserted id may be revised
pub known-revise : (id p : ℕ) (row : Row) (before : List EventLine) → AreKnown before → place_of_event id before ≡ Some p → AreKnown (before ++ Revise id row ∷ [])
known-revise id p row before are at = record {
  apart = apart-push (Revise id row) before tt are.apart;
  known = λ q nowhere.
      let none = sym (place_of-push q (Revise id row) before tt) ∙ nowhere in
      ends_of-append q before (Revise id row ∷ []) ∙ (append-nil (ends_of q before) ∙ are.known q none);
  events = λ q nowhere.
      let none = sym (place_of-push q (Revise id row) before tt) ∙ nowhere in
      event-push q before (Revise id row) ∙ no_version (eqb id q) row (event_with q before) (apart_from id q p before at none (eqb id q) refl) (are.events q none);
}

-- ---- one more guarantee

-- a guarantee is about no id
pub known-promise : (time : ℕ) (before : List EventLine) → AreKnown before → AreKnown (before ++ Promise time ∷ [])
known-promise time before are = record {
  apart = apart-push (Promise time) before tt are.apart;
  known = λ q nowhere. ends_of-append q before (Promise time ∷ []) ∙ (append-nil (ends_of q before) ∙ are.known q (sym (place_of-push q (Promise time) before tt) ∙ nowhere));
  events = λ q nowhere. event-push q before (Promise time) ∙ are.events q (sym (place_of-push q (Promise time) before tt) ∙ nowhere);
}
