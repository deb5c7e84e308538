-- What one more line changes in what lines say together.
use Rattle.std.proofs.Common.{◌≡◌, ℕ, suc, ◌<◌, ◌≤◌, List, [], ◌∷◌, ◌++◌, Bool, true, false, cond, eqb, length, get_or, set, min, max, Option, None, Some, refl, ap, sym, ◌∙◌, subst, arith, ◌⊎◌, inl, inr}
use Rattle.std.specs.Prelude.{option_map, unwrap_or}
use Rattle.std.specs.Option.{option_or}
use Rattle.std.proofs.lemmas.Bool.{eqb-true, eq-eqb}
use Rattle.std.proofs.lemmas.Bool.Decides.{nat_tests}
use Rattle.std.proofs.lemmas.List.{append-nil}
use Rattle.cedr_base.specs.declared.row.Row.{Row}
use Rattle.cedr_text.specs.declared.event_line.EventLine.{EventLine}
use Rattle.cedr_text.specs.declared.event_line.EventLine.TheVariants.{Insert, Retract, Revise, Promise}
use Rattle.cedr_guard.specs.Judging.{guarantee_of, ends_of, least_end, row_after, event_with}
use Rattle.cedr_guard.specs.History.{rows_among}
use Rattle.cedr_guard.specs.Standing.{place_of_event, AreApart, AreKnown}

-- ---- appended lines

cond_append : (test : Bool) (end : ℕ) (xs ys : List ℕ) → cond test (end ∷ (xs ++ ys)) (xs ++ ys) ≡ cond test (end ∷ xs) xs ++ ys
cond_append true end xs ys = refl
cond_append false end xs ys = refl

-- the new ends that two lists of lines give an id are those of the first and then those of the second
pub ends_of-append : (id : ℕ) (xs ys : List EventLine) → ends_of id (xs ++ ys) ≡ ends_of id xs ++ ends_of id ys
ends_of-append id [] ys = refl
ends_of-append id (Insert other row ∷ xs) ys = ends_of-append id xs ys
ends_of-append id (Retract other end ∷ xs) ys =
    ap (λ ends. cond (eqb other id) (end ∷ ends) ends) (ends_of-append id xs ys) ∙ cond_append (eqb other id) end (ends_of id xs) (ends_of id ys)
ends_of-append id (Revise other row ∷ xs) ys = ends_of-append id xs ys
ends_of-append id (Promise time ∷ xs) ys = ends_of-append id xs ys

-- with one more end, the least is the lesser of that end and the least before
pub least_of-push : (end : ℕ) (xs : List ℕ) (other : ℕ) → least_end end (xs ++ other ∷ []) ≡ min other (least_end end xs)
least_of-push end [] other = refl
least_of-push end (x ∷ xs) other = let rest = least_of-push end xs other in omega arith

-- the greatest guarantee of two lists of lines is the greater one of theirs
pub guarantee_of-append : (xs ys : List EventLine) → guarantee_of (xs ++ ys) ≡ max (guarantee_of xs) (guarantee_of ys)
guarantee_of-append [] ys = omega arith
guarantee_of-append (Insert id row ∷ xs) ys = guarantee_of-append xs ys
guarantee_of-append (Retract id end ∷ xs) ys = guarantee_of-append xs ys
guarantee_of-append (Revise id row ∷ xs) ys = guarantee_of-append xs ys
guarantee_of-append (Promise time ∷ xs) ys = let rest = guarantee_of-append xs ys in omega arith

-- ---- one more line

-- a row that ends at this time, where that is earlier
abbrev pub ended : ℕ → Row → Row
ended end row = record row { end = min end row.end }

-- the row that the event of an id has come to, for the row of a version of it and the lines behind that
abbrev pub row_now : ℕ → Row → List EventLine → Row
row_now id row xs = unwrap_or (event_with id xs) (row_after id row xs)

-- what one more line makes of a row of an event: another version's row, or the same with an earlier end
abbrev pub row_with : ℕ → EventLine → Row → Row
row_with id (Insert other row) old = cond (eqb other id) row old
row_with id (Retract other end) old = cond (eqb other id) (ended end old) old
row_with id (Revise other row) old = cond (eqb other id) row old
row_with id (Promise time) old = old

-- the same of a version without the later ones: one more version leaves it as it is
abbrev row_behind : ℕ → EventLine → Row → Row
row_behind id (Insert other row) old = old
row_behind id (Retract other end) old = cond (eqb other id) (ended end old) old
row_behind id (Revise other row) old = old
row_behind id (Promise time) old = old

-- the same of an event, if there is one
abbrev pub event_and : ℕ → EventLine → Option Row → Option Row
event_and id (Insert other row) found = cond (eqb other id) (Some row) found
event_and id (Retract other end) found = cond (eqb other id) (option_map (ended end) found) found
event_and id (Revise other row) found = cond (eqb other id) (Some row) found
event_and id (Promise time) found = found

ended_at : (test : Bool) (row : Row) (ends : List ℕ) (end : ℕ) → ◌≡◌ {A = Row} (record row { end = least_end row.end (ends ++ cond test (end ∷ []) []) }) (cond test (ended end (record row { end = least_end row.end ends })) (record row { end = least_end row.end ends }))
ended_at true row ends end = ap (λ (e : ℕ). record row { end = e }) (least_of-push row.end ends end)
ended_at false row ends end = ap (λ (es : List ℕ). record row { end = least_end row.end es }) (append-nil ends)

-- a version with one more line behind it
row_after-push : (id : ℕ) (row : Row) (xs : List EventLine) (line : EventLine) → row_after id row (xs ++ line ∷ []) ≡ row_behind id line (row_after id row xs)
row_after-push id row xs (Insert other r) = ap (λ (ends : List ℕ). record row { end = least_end row.end ends }) (ends_of-append id xs (Insert other r ∷ []) ∙ append-nil (ends_of id xs))
row_after-push id row xs (Retract other end) = ap (λ (ends : List ℕ). record row { end = least_end row.end ends }) (ends_of-append id xs (Retract other end ∷ [])) ∙ ended_at (eqb other id) row (ends_of id xs) end
row_after-push id row xs (Revise other r) = ap (λ (ends : List ℕ). record row { end = least_end row.end ends }) (ends_of-append id xs (Revise other r ∷ []) ∙ append-nil (ends_of id xs))
row_after-push id row xs (Promise time) = ap (λ (ends : List ℕ). record row { end = least_end row.end ends }) (ends_of-append id xs (Promise time ∷ []) ∙ append-nil (ends_of id xs))

version_at : (test : Bool) (row old : Row) (found : Option Row) → unwrap_or (cond test (Some row) found) old ≡ cond test row (unwrap_or found old)
version_at true row old found = refl
version_at false row old found = refl

retracted_at : (test : Bool) (end : ℕ) (old : Row) (found : Option Row) → unwrap_or (cond test (option_map (ended end) found) found) (cond test (ended end old) old) ≡ cond test (ended end (unwrap_or found old)) (unwrap_or found old)
retracted_at true end old None = refl
retracted_at true end old (Some row) = refl
retracted_at false end old found = refl

now_at : (id : ℕ) (line : EventLine) (found : Option Row) (old : Row) → unwrap_or (event_and id line found) (row_behind id line old) ≡ row_with id line (unwrap_or found old)
now_at id (Insert other row) found old = version_at (eqb other id) row old found
now_at id (Retract other end) found old = retracted_at (eqb other id) end old found
now_at id (Revise other row) found old = version_at (eqb other id) row old found
now_at id (Promise time) found old = refl

now_from : (id : ℕ) (row : Row) (xs : List EventLine) (line : EventLine) → event_with id (xs ++ line ∷ []) ≡ event_and id line (event_with id xs) → row_now id row (xs ++ line ∷ []) ≡ row_with id line (row_now id row xs)
now_from id row xs line event =
    ap (λ found. unwrap_or found (row_after id row (xs ++ line ∷ []))) event
    ∙ (ap (unwrap_or (event_and id line (event_with id xs))) (row_after-push id row xs line)
    ∙ now_at id line (event_with id xs) (row_after id row xs))

newer_at : (test is : Bool) (row old : Row) (found : Option Row) → cond test (Some (cond is row old)) (cond is (Some row) found) ≡ cond is (Some row) (cond test (Some old) found)
newer_at true true row old found = refl
newer_at true false row old found = refl
newer_at false true row old found = refl
newer_at false false row old found = refl

shorter_at : (test is : Bool) (end : ℕ) (old : Row) (found : Option Row) → cond test (Some (cond is (ended end old) old)) (cond is (option_map (ended end) found) found) ≡ cond is (option_map (ended end) (cond test (Some old) found)) (cond test (Some old) found)
shorter_at true true end old found = refl
shorter_at true false end old found = refl
shorter_at false true end old found = refl
shorter_at false false end old found = refl

and_at : (test : Bool) (id : ℕ) (line : EventLine) (old : Row) (found : Option Row) → cond test (Some (row_with id line old)) (event_and id line found) ≡ event_and id line (cond test (Some old) found)
and_at test id (Insert other row) old found = newer_at test (eqb other id) row old found
and_at test id (Retract other end) old found = shorter_at test (eqb other id) end old found
and_at test id (Revise other row) old found = newer_at test (eqb other id) row old found
and_at test id (Promise time) old found = refl

version_and : (test : Bool) (id : ℕ) (row : Row) (xs : List EventLine) (line : EventLine) → event_with id (xs ++ line ∷ []) ≡ event_and id line (event_with id xs)
    → cond test (Some (row_now id row (xs ++ line ∷ []))) (event_with id (xs ++ line ∷ [])) ≡ event_and id line (cond test (Some (row_now id row xs)) (event_with id xs))
version_and test id row xs line event =
    ap (λ now. cond test (Some now) (event_with id (xs ++ line ∷ []))) (now_from id row xs line event)
    ∙ (ap (cond test (Some (row_with id line (row_now id row xs)))) event
    ∙ and_at test id line (row_now id row xs) (event_with id xs))

neither_at : (test : Bool) → ◌≡◌ {A = Option Row} None (cond test None None)
neither_at true = refl
neither_at false = refl

first_event : (id : ℕ) (line : EventLine) → event_with id (line ∷ []) ≡ event_and id line None
first_event id (Insert other row) = refl
first_event id (Retract other end) = neither_at (eqb other id)
first_event id (Revise other row) = refl
first_event id (Promise time) = refl

-- the event of an id with one more line
pub event-push : (id : ℕ) (xs : List EventLine) (line : EventLine) → event_with id (xs ++ line ∷ []) ≡ event_and id line (event_with id xs)
event-push id [] line = first_event id line
event-push id (Insert other row ∷ xs) line = version_and (eqb other id) id row xs line (event-push id xs line)
event-push id (Retract other end ∷ xs) line = event-push id xs line
event-push id (Revise other row ∷ xs) line = version_and (eqb other id) id row xs line (event-push id xs line)
event-push id (Promise time ∷ xs) line = event-push id xs line

-- and the row that it has come to
pub now-push : (id : ℕ) (row : Row) (xs : List EventLine) (line : EventLine) → row_now id row (xs ++ line ∷ []) ≡ row_with id line (row_now id row xs)
now-push id row xs line = now_from id row xs line (event-push id xs line)

-- ---- places

place_behind : (test : Bool) (first other : Option ℕ) → cond test (Some 0) (option_map (λ n. suc n) (option_or first other)) ≡ option_or (cond test (Some 0) (option_map (λ n. suc n) first)) (option_map (λ n. suc n) other)
place_behind true first other = refl
place_behind false None other = refl
place_behind false (Some place) other = refl

next_place : (test : Bool) (n : ℕ) → option_map (λ m. suc m) (cond test (Some n) None) ≡ cond test (Some (suc n)) None
next_place true n = refl
next_place false n = refl

-- an insertion after others has the next place
pub place_of-insert : (id other : ℕ) (row : Row) (xs : List EventLine) → place_of_event id (xs ++ Insert other row ∷ []) ≡ option_or (place_of_event id xs) (cond (eqb other id) (Some (length (rows_among xs))) None)
place_of-insert id other row [] = refl
place_of-insert id other row (Insert first r ∷ xs) =
    let found = eqb first id in
    let here = cond (eqb other id) (Some (length (rows_among xs))) None in
    ap (λ place. cond found (Some 0) (option_map (λ n. suc n) place)) (place_of-insert id other row xs)
    ∙ (place_behind found (place_of_event id xs) here
    ∙ ap (λ place. option_or (cond found (Some 0) (option_map (λ n. suc n) (place_of_event id xs))) place) (next_place (eqb other id) (length (rows_among xs))))
place_of-insert id other row (Retract first end ∷ xs) = place_of-insert id other row xs
place_of-insert id other row (Revise first r ∷ xs) = place_of-insert id other row xs
place_of-insert id other row (Promise time ∷ xs) = place_of-insert id other row xs

-- a line that inserts nothing
abbrev pub InsertsNone : EventLine → Type 0
InsertsNone (Insert id row) = ⊥
InsertsNone (Retract id end) = Unit {0}
InsertsNone (Revise id row) = Unit {0}
InsertsNone (Promise time) = Unit {0}

no_place_alone : (id : ℕ) (line : EventLine) → InsertsNone line → place_of_event id (line ∷ []) ≡ None
no_place_alone id (Insert other row) inserts = absurd inserts
no_place_alone id (Retract other end) inserts = refl
no_place_alone id (Revise other row) inserts = refl
no_place_alone id (Promise time) inserts = refl

-- one more such line changes no id's place
pub place_of-push : (id : ℕ) (line : EventLine) (xs : List EventLine) → InsertsNone line → place_of_event id (xs ++ line ∷ []) ≡ place_of_event id xs
place_of-push id line [] inserts = no_place_alone id line inserts
place_of-push id line (Insert first r ∷ xs) inserts = ap (λ place. cond (eqb first id) (Some 0) (option_map (λ n. suc n) place)) (place_of-push id line xs inserts)
place_of-push id line (Retract first e ∷ xs) inserts = place_of-push id line xs inserts
place_of-push id line (Revise first r ∷ xs) inserts = place_of-push id line xs inserts
place_of-push id line (Promise t ∷ xs) inserts = place_of-push id line xs inserts

-- a place is that of the first insertion, or one more than the place among the later ones
place_cases : (test : Bool) (place : Option ℕ) (p : ℕ) → cond test (Some 0) (option_map (λ n. suc n) place) ≡ Some p → ((test ≡ true) × (p ≡ 0)) ⊎ ((test ≡ false) × ((q : ℕ) × (place ≡ Some q) × (p ≡ suc q)))
place_cases true place p h = inl (refl, cc)
place_cases false None p h = cc
place_cases false (Some q) p h = inr (refl, (q, refl, cc))

-- an id without a place isn't that of the first insertion, and has no place among the later ones
pub no_place : (test : Bool) (place : Option ℕ) → cond test (Some 0) (option_map (λ n. suc n) place) ≡ None → (test ≡ false) × (place ≡ None)
no_place true place h = cc
no_place false None h = (refl, refl)
no_place false (Some q) h = cc

-- an event's place is that of a row
pub place_below : (id : ℕ) (xs : List EventLine) (p : ℕ) → place_of_event id xs ≡ Some p → p < length (rows_among xs)
place_below id [] p h = cc
place_below id (Insert other row ∷ xs) p h = elim (place_cases (eqb other id) (place_of_event id xs) p h) [
  | inl here ↦ omega (arith, here.1)
  | inr later ↦ omega (arith, later.1.2, place_below id xs later.1.0 later.1.1)
]
place_below id (Retract other end ∷ xs) p h = place_below id xs p h
place_below id (Revise other row ∷ xs) p h = place_below id xs p h
place_below id (Promise time ∷ xs) p h = place_below id xs p h

later_version : (test : Bool) (found : Option Row) (old row : Row) → found ≡ Some row → cond test (Some (unwrap_or found old)) found ≡ Some row
later_version true found old row is = ap (λ f. Some (unwrap_or f old)) is
later_version false found old row is = is

here_at : (test : Bool) (row : Row) (found : Option Row) → test ≡ true → cond test (Some row) found ≡ Some row
here_at true row found is = refl
here_at false row found is = cc

elsewhere_at : (test : Bool) (row : Row) (found : Option Row) → test ≡ false → cond test (Some row) found ≡ found
elsewhere_at true row found is = cc
elsewhere_at false row found is = refl

-- the event of an id that has a place is the row there
pub event_placed : (id : ℕ) (xs : List EventLine) (p : ℕ) (d : Row) → place_of_event id xs ≡ Some p → event_with id xs ≡ Some (get_or (rows_among xs) p d)
event_placed id [] p d h = cc
event_placed id (Insert other row ∷ xs) p d h = elim (place_cases (eqb other id) (place_of_event id xs) p h) [
  | inl here ↦
      here_at (eqb other id) (row_now id row xs) (event_with id xs) here.0
      ∙ (ap (λ (i : ℕ). Some (row_now i row xs)) (sym (eqb-true other id here.0))
      ∙ ap (λ (n : ℕ). Some (get_or (row_now other row xs ∷ rows_among xs) n d)) (sym here.1))
  | inr later ↦
      elsewhere_at (eqb other id) (row_now id row xs) (event_with id xs) later.0
      ∙ (event_placed id xs later.1.0 d later.1.1
      ∙ ap (λ (n : ℕ). Some (get_or (row_now other row xs ∷ rows_among xs) n d)) (sym later.1.2))
]
event_placed id (Retract other end ∷ xs) p d h = event_placed id xs p d h
event_placed id (Revise other row ∷ xs) p d h = later_version (eqb other id) (event_with id xs) (row_after id row xs) (get_or (rows_among xs) p d) (event_placed id xs p d h)
event_placed id (Promise time ∷ xs) p d h = event_placed id xs p d h

event_at : (id : ℕ) (xs : List EventLine) (d : Row) (place : Option ℕ) → place_of_event id xs ≡ place → (place ≡ None → event_with id xs ≡ None) → event_with id xs ≡ option_map (λ p. get_or (rows_among xs) p d) place
event_at id xs d None is none = none refl
event_at id xs d (Some p) is none = event_placed id xs p d is

-- the event of an id is the row at its place, and there is none where the id has no place
pub event_place : (id : ℕ) (xs : List EventLine) (d : Row) → AreKnown xs → event_with id xs ≡ option_map (λ p. get_or (rows_among xs) p d) (place_of_event id xs)
event_place id xs d are = event_at id xs d (place_of_event id xs) refl (are.events id)

-- ---- the rows with one more line

-- equality of ids has no direction
pub flipped : (a b : ℕ) (t : Bool) → eqb a b ≡ t → eqb b a ≡ t
flipped a b true h = eq-eqb b a (sym (eqb-true a b h))
flipped a b false h = grind (arith, nat_tests)

-- A line about the event of one id alone: it makes this of that event's row, and inserts nothing.
pub record IsAbout (line : EventLine) (id : ℕ) (made : Row → Row) : Type 0 where
  pub none : InsertsNone line
  pub this : (row : Row) → row_with id line row ≡ made row
  pub other : (q : ℕ) (row : Row) → eqb q id ≡ false → row_with q line row ≡ row

with_at : (test : Bool) (row other : Row) → test ≡ true → cond test row other ≡ row
with_at true row other is = refl
with_at false row other is = cc

without_at : (test : Bool) (row other : Row) → test ≡ false → cond test row other ≡ other
without_at true row other is = cc
without_at false row other is = refl

pub about_retract : (id end : ℕ) → IsAbout (Retract id end) id (ended end)
about_retract id end = record {
  none = tt;
  this = λ row. with_at (eqb id id) (ended end row) row (eq-eqb id id refl);
  other = λ q row apart. without_at (eqb id q) (ended end row) row (flipped q id false apart);
}

pub about_revise : (id : ℕ) (new : Row) → IsAbout (Revise id new) id (λ (row : Row). new)
about_revise id new = record {
  none = tt;
  this = λ row. with_at (eqb id id) new row (eq-eqb id id refl);
  other = λ q row apart. without_at (eqb id q) new row (flipped q id false apart);
}

both : (new old : Row) (news olds : List Row) → new ≡ old → news ≡ olds → ◌≡◌ {A = List Row} (new ∷ news) (old ∷ olds)
both new old news olds h t = cc

no_row_alone : (line : EventLine) → InsertsNone line → rows_among (line ∷ []) ≡ []
no_row_alone (Insert id row) inserts = absurd inserts
no_row_alone (Retract id end) inserts = refl
no_row_alone (Revise id row) inserts = refl
no_row_alone (Promise time) inserts = refl

-- a new insertion is one row more
pub rows-insert : (id : ℕ) (row : Row) (xs : List EventLine) → place_of_event id xs ≡ None → rows_among (xs ++ Insert id row ∷ []) ≡ rows_among xs ++ row ∷ []
rows-insert id row [] none = refl
rows-insert id row (Insert first r ∷ xs) none =
    let parts = no_place (eqb first id) (place_of_event id xs) none in
    both (row_now first r (xs ++ Insert id row ∷ [])) (row_now first r xs) (rows_among (xs ++ Insert id row ∷ [])) (rows_among xs ++ row ∷ [])
    (now-push first r xs (Insert id row) ∙ without_at (eqb id first) row (row_now first r xs) (flipped first id false parts.0)) (rows-insert id row xs parts.1)
rows-insert id row (Retract first end ∷ xs) none = rows-insert id row xs none
rows-insert id row (Revise first r ∷ xs) none = rows-insert id row xs none
rows-insert id row (Promise time ∷ xs) none = rows-insert id row xs none

-- a line about an event that isn't among these leaves them as they are
rows-other : (line : EventLine) (id : ℕ) (made : Row → Row) (xs : List EventLine) → IsAbout line id made → place_of_event id xs ≡ None → rows_among (xs ++ line ∷ []) ≡ rows_among xs
rows-other line id made [] about none = no_row_alone line about.none
rows-other line id made (Insert first r ∷ xs) about none =
    let parts = no_place (eqb first id) (place_of_event id xs) none in
    both (row_now first r (xs ++ line ∷ [])) (row_now first r xs) (rows_among (xs ++ line ∷ [])) (rows_among xs)
    (now-push first r xs line ∙ about.other first (row_now first r xs) parts.0) (rows-other line id made xs about parts.1)
rows-other line id made (Retract first end ∷ xs) about none = rows-other line id made xs about none
rows-other line id made (Revise first r ∷ xs) about none = rows-other line id made xs about none
rows-other line id made (Promise time ∷ xs) about none = rows-other line id made xs about none

-- one row of a list, as it is made
abbrev pub made_at : (Row → Row) → ℕ → Row → List Row → List Row
made_at made p d rows = set rows p (made (get_or rows p d))

-- a line about an event changes the row at its place
pub rows-about : (line : EventLine) (id : ℕ) (made : Row → Row) (xs : List EventLine) (p : ℕ) (d : Row) → IsAbout line id made → AreApart xs → place_of_event id xs ≡ Some p
    → rows_among (xs ++ line ∷ []) ≡ made_at made p d (rows_among xs)
rows-about line id made [] p d about apart at = cc
rows-about line id made (Insert other row ∷ xs) p d about apart at =
    elim (place_cases (eqb other id) (place_of_event id xs) p at) [
      | inl here ↦
          let none : place_of_event id xs ≡ None = subst (λ (i : ℕ). place_of_event i xs ≡ None) (eqb-true other id here.0) apart.0 in
          let first : row_now other row (xs ++ line ∷ []) ≡ made (row_now other row xs) =
          now-push other row xs line ∙ (ap (λ (i : ℕ). row_with i line (row_now other row xs)) (eqb-true other id here.0) ∙ about.this (row_now other row xs)) in
          subst (λ (n : ℕ). ◌≡◌ {A = List Row} (row_now other row (xs ++ line ∷ []) ∷ rows_among (xs ++ line ∷ [])) (made_at made n d (row_now other row xs ∷ rows_among xs))) (sym here.1)
          (both _ _ _ _ first (rows-other line id made xs about none))
      | inr later ↦
          subst (λ (n : ℕ). ◌≡◌ {A = List Row} (row_now other row (xs ++ line ∷ []) ∷ rows_among (xs ++ line ∷ [])) (made_at made n d (row_now other row xs ∷ rows_among xs))) (sym later.1.2)
          (both _ _ _ _ (now-push other row xs line ∙ about.other other (row_now other row xs) later.0) (rows-about line id made xs later.1.0 d about apart.1 later.1.1))
    ]
rows-about line id made (Retract other e ∷ xs) p d about apart at = rows-about line id made xs p d about apart at
rows-about line id made (Revise other r ∷ xs) p d about apart at = rows-about line id made xs p d about apart at
rows-about line id made (Promise time ∷ xs) p d about apart at = rows-about line id made xs p d about apart at

-- a guarantee changes no row
pub rows-promise : (time : ℕ) (xs : List EventLine) → rows_among (xs ++ Promise time ∷ []) ≡ rows_among xs
rows-promise time [] = refl
rows-promise time (Insert other row ∷ xs) = both _ _ _ _ (now-push other row xs (Promise time)) (rows-promise time xs)
rows-promise time (Retract other end ∷ xs) = rows-promise time xs
rows-promise time (Revise other row ∷ xs) = rows-promise time xs
rows-promise time (Promise t ∷ xs) = rows-promise time xs

-- one row of a list, with a new end
abbrev pub cut_at : ℕ → Row → ℕ → List Row → List Row
cut_at p d end rows = set rows p (record (get_or rows p d) { end = end })

-- a retraction ends its event's row at the new end, where that is no later
pub rows-retract : (id end : ℕ) (xs : List EventLine) (p : ℕ) (d : Row) → AreApart xs → place_of_event id xs ≡ Some p → end ≤ (get_or (rows_among xs) p d).end
    → rows_among (xs ++ Retract id end ∷ []) ≡ cut_at p d end (rows_among xs)
rows-retract id end xs p d apart at low =
    let row = get_or (rows_among xs) p d in
    rows-about (Retract id end) id (ended end) xs p d (about_retract id end) apart at
    ∙ ap (λ (e : ℕ). set (rows_among xs) p (record row { end = e })) (omega (arith, low))

-- a revision puts its row in place of its event's
pub rows-revise : (id : ℕ) (row : Row) (xs : List EventLine) (p : ℕ) → AreApart xs → place_of_event id xs ≡ Some p → rows_among (xs ++ Revise id row ∷ []) ≡ set (rows_among xs) p row
rows-revise id row xs p apart at = rows-about (Revise id row) id (λ (old : Row). row) xs p row (about_revise id row) apart at
