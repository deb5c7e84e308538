-- Endings in a set, and the rows that they are of.
use Rattle.std.proofs.Common.{◌≡◌, ℕ, ◌<◌, ◌≤◌, inl, inr, List, [], ◌∷◌, length, Bool, true, false, cond, Option, Some, None, refl, ap, sym, ◌∙◌, arith, rules}
use Rattle.std.specs.Prelude.{nat_eq, ◌&&◌, IfSome, IsTrue, slice_get}
use Rattle.std.specs.List.{list_any}
use Rattle.std.specs.BTreeMap.{is_at}
use Rattle.std.specs.Ordering.{nat_cmp, is_eq, is_gt, ordering_then}
use Rattle.std.specs.declared.cmp.Ordering.TheVariants.{Less, Equal, Greater}
use Rattle.std.specs.Cmp.{tied_then, nat_cmp_is}
use Rattle.std.proofs.lemmas.Bool.{cases_lt, eqb-true, eq-eqb, le-ltb}
use Rattle.std.proofs.lemmas.Bool.Decides.{nat_tests}
use Rattle.cedr_base.specs.declared.row.Row.{Row}
use Rattle.open_events.specs.declared.ending.Ending.{Ending}
use Rattle.open_events.specs.Endings.{ends_at, still_open, event_end_cmp, has_ending, PlacesEnd, IsFirstEndTaken, NoEndBefore}

-- ---- numbers

-- another number isn't the same
apart : (t u : ℕ) → t < u → nat_eq t u ≡ false
apart t u h = grind (arith, nat_tests)

apart_above : (t u : ℕ) → u < t → nat_eq t u ≡ false
apart_above t u h = grind (arith, nat_tests)

-- a number is found by equality
pub at_is : (t u : ℕ) → is_at (nat_cmp t) u ≡ nat_eq t u
at_is t u = elim (cases_lt t u) [
  | inl below ↦ ap is_eq (sym (nat_cmp_is t u Less below)) ∙ sym (apart t u below)
  | inr not_below ↦ elim (cases_lt u t) [
    | inl above ↦ ap is_eq (sym (nat_cmp_is t u Greater above)) ∙ sym (apart_above t u above)
    | inr not_above ↦ let same : t ≡ u = omega arith in ap is_eq (sym (nat_cmp_is t u Equal same)) ∙ sym (eq-eqb t u same)
  ]
]

-- ---- endings in a set

-- an ending is found by its time and its id
ending_at : (end t id other : ℕ) → is_at (event_end_cmp (record { end = end; id = id })) (record { end = t; id = other }) ≡ (nat_eq end t && nat_eq id other)
ending_at end t id other =
    sym (tied_then (nat_cmp end t) (nat_cmp id other))
    ∙ (ap (λ b. b && is_at (nat_cmp id) other) (at_is end t) ∙ ap (λ b. nat_eq end t && b) (at_is id other))

-- a set has an ending or hasn't, in place of what it had
abbrev pub IsUpdate : Ending → Bool → List Ending → List Ending → Type 0
IsUpdate ending there old new = (q : Ending) → list_any (is_at (event_end_cmp q)) new ≡ cond (is_at (event_end_cmp ending) q) there (list_any (is_at (event_end_cmp q)) old)

-- a set that is updated at one ending has that one where it is said to, and the others as before
pub placed : (old new : List Ending) (end id : ℕ) (there : Bool) → IsUpdate (record { end = end; id = id }) there old new → PlacesEnd old new end id there
placed old new end id there update t other = update (record { end = t; id = other }) ∙ ap (λ b. cond b there (has_ending old t other)) (ending_at end t id other)

-- what stands after no other one in a set has the least time
pub least_first : (endings : List Ending) (ending : Ending) → ((q : Ending) → IsTrue (list_any (is_at (event_end_cmp q)) endings) → is_gt (event_end_cmp ending q) ≡ false) → (t id : ℕ) → has_ending endings t id ≡ true → ending.end ≤ t
least_first endings ending least t id there = elim (cases_lt t ending.end) [
  | inr behind ↦ behind
  | inl before ↦
      let greater : is_gt (event_end_cmp ending (record { end = t; id = id })) ≡ true = ap (λ o. is_gt (ordering_then o (nat_cmp ending.id id))) (sym (nat_cmp_is ending.end t Greater before)) in
      let not_greater = least (record { end = t; id = id }) there in cc
]

-- the first ending of a set that was taken out
pub first_taken : (old new : List Ending) (time : ℕ) (ending : Ending) (o : Option Ending) → slice_get old 0 ≡ Some ending → ending.end < time → IfSome o (λ k. old ≡ k ∷ new) → IfSome o (λ k. IsTrue (list_any (is_at (event_end_cmp k)) old))
    → IfSome o (λ k. IsUpdate k false old new) → IfSome o (IsFirstEndTaken old new time)
first_taken old new time ending None first before taken there update = search rules
first_taken old new time ending (Some k) first before taken there update =
    let is : Some k ≡ Some ending = sym (ap (λ (es : List Ending). slice_get es 0) taken) ∙ first in
    let same : k ≡ ending = cc in
    let end_is : k.end ≡ ending.end = ap (λ (e : Ending). e.end) same in
    record { there = there; before = omega arith; taken = placed old new k.end k.id false update }

-- a set that has an ending has some
pub none_in_empty : (endings : List Ending) (t id : ℕ) → (0 < length endings → ⊥) → has_ending endings t id ≡ true → ⊥
none_in_empty [] t id none there = cc
none_in_empty (e ∷ endings) t id none there = none (omega arith)

-- ---- a row under an id

moved_at : (o e s x : Bool) → (s ≡ true → x ≡ o) → (o ≡ true → e ≡ true → ⊥) → cond (o && s) false (cond (e && s) true x) ≡ cond s e x
moved_at true true s x same apart = absurd (apart refl refl)
moved_at true false true x same apart = refl
moved_at true false false x same apart = refl
moved_at false true true x same apart = refl
moved_at false true false x same apart = refl
moved_at false false true x same apart = same refl
moved_at false false false x same apart = refl

added_at : (e s x : Bool) → (s ≡ true → e ≡ false → x ≡ false) → cond (e && s) true x ≡ cond s e x
added_at true true x none = refl
added_at true false x none = refl
added_at false true x none = none refl refl
added_at false false x none = refl

undone_at : (b x : Bool) → (b ≡ true → x ≡ false) → cond b false (cond b true x) ≡ x
undone_at true x none = sym (none refl)
undone_at false x none = refl

both_true : (a b : Bool) → (a && b) ≡ true → b ≡ true
both_true true b h = h
both_true false b h = cc

ends_at_put : (t : ℕ) (row : Row) (found : Option Row) (s : Bool) → ends_at t (cond s (Some row) found) ≡ cond s (nat_eq row.end t) (ends_at t found)
ends_at_put t row found true = refl
ends_at_put t row found false = refl

-- a map has a row under an id, and the others as before
abbrev pub HasPut : ℕ → Option Row → (ℕ → Option Row) → (ℕ → Option Row) → Type 0
HasPut id row old new = (q : ℕ) → new q ≡ cond (is_at (nat_cmp id) q) row (old q)

put_at : (id q : ℕ) (row : Row) (old new : ℕ → Option Row) → HasPut id (Some row) old new → (t : ℕ) → ends_at t (new q) ≡ cond (nat_eq id q) (nat_eq row.end t) (ends_at t (old q))
put_at id q row old new put t = ap (ends_at t) (put q ∙ ap (λ b. cond b (Some row) (old q)) (at_is id q)) ∙ ends_at_put t row (old q) (nat_eq id q)

-- what is found under the same id
found_same : (id q : ℕ) (old : ℕ → Option Row) (found : Option Row) → old id ≡ found → nat_eq id q ≡ true → (t : ℕ) → ends_at t (old q) ≡ ends_at t found
found_same id q old found is same t = ap (λ (n : ℕ). ends_at t (old n)) (sym (eqb-true id q same)) ∙ ap (ends_at t) is

-- the endings of rows
abbrev pub AreEndings : List Ending → (ℕ → Option Row) → Type 0
AreEndings endings rows = (t : ℕ) (id : ℕ) → has_ending endings t id ≡ ends_at t (rows id)

-- a row in place of one with another end
pub endings_moved : (a b c : List Ending) (old new : ℕ → Option Row) (id : ℕ) (was row : Row) → AreEndings a old → PlacesEnd a b row.end id true → PlacesEnd b c was.end id false → HasPut id (Some row) old new → old id ≡ Some was → (was.end ≡ row.end → ⊥) → AreEndings c new
endings_moved a b c old new id was row are added gone put found apart t q =
    gone t q
    ∙ (ap (λ x. cond (nat_eq was.end t && nat_eq id q) false x) (added t q)
    ∙ (moved_at (nat_eq was.end t) (nat_eq row.end t) (nat_eq id q) (has_ending a t q) (λ same. are t q ∙ found_same id q old (Some was) found same t) (λ o e. apart (eqb-true was.end t o ∙ sym (eqb-true row.end t e)))
    ∙ (ap (λ x. cond (nat_eq id q) (nat_eq row.end t) x) (are t q)
    ∙ sym (put_at id q row old new put t))))

-- a row in place of one with the same end
pub endings_stay : (a b : List Ending) (old new : ℕ → Option Row) (id : ℕ) (was row : Row) → AreEndings a old → PlacesEnd a b row.end id true → HasPut id (Some row) old new → old id ≡ Some was → was.end ≡ row.end → AreEndings b new
endings_stay a b old new id was row are added put found ends t q =
    added t q
    ∙ (added_at (nat_eq row.end t) (nat_eq id q) (has_ending a t q) (λ same other. are t q ∙ (found_same id q old (Some was) found same t ∙ (ap (λ (n : ℕ). nat_eq n t) ends ∙ other)))
    ∙ (ap (λ x. cond (nat_eq id q) (nat_eq row.end t) x) (are t q)
    ∙ sym (put_at id q row old new put t)))

-- a row under a new id
pub endings_added : (a b : List Ending) (old new : ℕ → Option Row) (id : ℕ) (row : Row) → AreEndings a old → PlacesEnd a b row.end id true → HasPut id (Some row) old new → old id ≡ None → AreEndings b new
endings_added a b old new id row are added put found t q =
    added t q
    ∙ (added_at (nat_eq row.end t) (nat_eq id q) (has_ending a t q) (λ same other. are t q ∙ found_same id q old None found same t)
    ∙ (ap (λ x. cond (nat_eq id q) (nat_eq row.end t) x) (are t q)
    ∙ sym (put_at id q row old new put t)))

-- a new ending that was taken back
pub endings_undone : (a b c : List Ending) (rows : ℕ → Option Row) (id end : ℕ) → AreEndings a rows → PlacesEnd a b end id true → PlacesEnd b c end id false → rows id ≡ None → AreEndings c rows
endings_undone a b c rows id end are added gone found t q =
    gone t q
    ∙ (ap (λ x. cond (nat_eq end t && nat_eq id q) false x) (added t q)
    ∙ (undone_at (nat_eq end t && nat_eq id q) (has_ending a t q) (λ same. are t q ∙ found_same id q rows None found (both_true (nat_eq end t) (nat_eq id q) same) t)
    ∙ are t q))

-- ---- rows that are still open

open_at : (time : ℕ) (found : Option Row) → ((row : Row) → found ≡ Some row → time ≤ row.end) → still_open time found ≡ found
open_at time None late = refl
open_at time (Some row) late = ap (λ b. cond b None (Some row)) (le-ltb row.end time (late row refl))

-- where no ending is before a time all rows are still open
pub all_open : (a : List Ending) (rows : ℕ → Option Row) (time : ℕ) → AreEndings a rows → NoEndBefore a time → (q : ℕ) → still_open time (rows q) ≡ rows q
all_open a rows time are none q = open_at time (rows q) (λ row is. none row.end q (are row.end q ∙ (ap (ends_at row.end) is ∙ eq-eqb row.end row.end refl)))
