-- Ids in a list that ascends, and the others in a map.
use Rattle.std.proofs.Common.{◌≡◌, ℕ, zero, suc, ◌-◌, ◌<◌, ◌≤◌, List, [], ◌∷◌, ◌++◌, Bool, true, false, cond, eqb, length, get_or, Option, None, Some, refl, ap, sym, ◌∙◌, subst, arith, inl, inr}
use Rattle.std.specs.Prelude.{◌+◌, All, Result, Ok, Err, MatchResult}
use Rattle.std.specs.declared.cmp.Ordering.TheVariants.{Less, Equal, Greater}
use Rattle.std.specs.Option.{option_or}
use Rattle.std.specs.Ordering.{nat_cmp, is_lt}
use Rattle.std.specs.Cmp.{nat_cmp_total}
use Rattle.std.specs.List.Sorted.{IsBinarySearchResult, IsSearchInRange}
use Rattle.std.proofs.lemmas.Bool.{cases_lt, eqb-true, eq-eqb}
use Rattle.std.proofs.lemmas.Bool.Decides.{nat_tests}
use Rattle.std.proofs.lemmas.List.{get_or_default}
use Rattle.std.proofs.lemmas.List.Elements.{All-tail, All-weaker}
use Rattle.std.proofs.lemmas.List.Sorted.{searchable_from_sorted}
use Rattle.cedr_guard.specs.declared.ids.IdPlace.{IdPlace}
use Rattle.cedr_guard.specs.Ids.{place_among, AreRising, AreBelow}

-- ---- the list

-- an id that isn't in the list has no place there
place_among-none : (id : ℕ) (entries : List IdPlace) → All (λ entry. eqb entry.id id ≡ false) entries → place_among id entries ≡ None
place_among-none id [] apart = refl
place_among-none id (entry ∷ entries) apart =
    ap (λ test. cond test (Some entry.place) (place_among id entries)) (apart 0 entry (omega arith))
    ∙ place_among-none id entries (All-tail (λ e. eqb e.id id ≡ false) entry entries apart)

lower_apart : (a b : ℕ) → a < b → eqb a b ≡ false
lower_apart a b h = grind (arith, nat_tests)

-- an id above all in the list has no place there
pub place_among-below : (id : ℕ) (entries : List IdPlace) → AreBelow id entries → place_among id entries ≡ None
place_among-below id entries below =
    place_among-none id entries (All-weaker (λ e. e.id < id) (λ e. eqb e.id id ≡ false) (λ e h. lower_apart e.id id h) entries below)

-- each id of a list that ascends has its place
place_among-at : (entries : List IdPlace) (i : ℕ) (d : IdPlace) → AreRising entries → i < length entries → place_among (get_or entries i d).id entries ≡ Some (get_or entries i d).place
place_among-at [] i d rising within = absurd (omega arith)
place_among-at (entry ∷ entries) zero d rising within = ap (λ test. cond test (Some entry.place) (place_among entry.id entries)) (eq-eqb entry.id entry.id refl)
place_among-at (entry ∷ entries) (suc i) d rising within =
    ap (λ test. cond test (Some entry.place) (place_among (get_or entries i d).id entries)) (lower_apart entry.id (get_or entries i d).id (rising 0 (suc i) d (omega arith) within))
    ∙ place_among-at entries i d (λ j k e before inside. rising (suc j) (suc k) e (omega arith) (omega arith)) (omega arith)

or_behind : (test : Bool) (place : ℕ) (first other : Option ℕ) → cond test (Some place) (option_or first other) ≡ option_or (cond test (Some place) first) other
or_behind true place first other = refl
or_behind false place first other = refl

-- one more id behind the list
pub place_among-push : (id : ℕ) (entries : List IdPlace) (last : IdPlace) → place_among id (entries ++ last ∷ []) ≡ option_or (place_among id entries) (cond (eqb last.id id) (Some last.place) None)
place_among-push id [] last = refl
place_among-push id (entry ∷ entries) last =
    ap (λ place. cond (eqb entry.id id) (Some entry.place) place) (place_among-push id entries last)
    ∙ or_behind (eqb entry.id id) entry.place (place_among id entries) (cond (eqb last.id id) (Some last.place) None)

-- ---- a search in the list

equal_same : (a b : ℕ) → nat_cmp a b ≡ Equal → a ≡ b
equal_same a b h = grind (arith, nat_tests)

less_apart : (a b : ℕ) → nat_cmp a b ≡ Less → eqb a b ≡ false
less_apart a b h = grind (arith, nat_tests)

greater_apart : (a b : ℕ) → nat_cmp a b ≡ Greater → eqb a b ≡ false
greater_apart a b h = grind (arith, nat_tests)

not_less : (a b : ℕ) → a < b → is_lt (nat_cmp b a) ≡ false
not_less a b h = grind (arith, nat_tests)

-- an id that stands somewhere in a list that ascends has the place there
pub place_found : (id : ℕ) (entries : List IdPlace) (i : ℕ) (d : IdPlace) → AreRising entries → i < length entries → (get_or entries i d).id ≡ id → place_among id entries ≡ Some (get_or entries i d).place
place_found id entries i d rising within is = subst (λ (q : ℕ). place_among q entries ≡ Some (get_or entries i d).place) is (place_among-at entries i d rising within)

-- what a binary search in a list that ascends says of an id
pub place_searched : (id : ℕ) (entries : List IdPlace) (r : Result ℕ ℕ) → AreRising entries → IsSearchInRange r (length entries) → IsBinarySearchResult (λ e. nat_cmp e.id id) entries r
    → MatchResult r (λ i. (d : IdPlace) → place_among id entries ≡ Some (get_or entries i d).place) (λ i. place_among id entries ≡ None)
place_searched id entries (Ok i) rising range found = λ d. place_found id entries i d rising range (equal_same (get_or entries i d).id id (found d))
place_searched id entries (Err i) rising range found =
    let sorted = λ (k : ℕ) (d : IdPlace) (low : 0 ≤ k) (within : k + 1 < length entries). not_less (get_or entries k d).id (get_or entries (k + 1) d).id (rising k (k + 1) d (omega arith) within) in
    let parts = found (searchable_from_sorted nat_cmp_total (λ (e : IdPlace). e.id) entries id sorted) in
    place_among-none id entries (λ k d within. elim (cases_lt k i) [
      | inl before ↦ less_apart (get_or entries k d).id id (parts.0 k d (omega arith) before)
      | inr after ↦ greater_apart (get_or entries k d).id id (parts.1 k d after within)
    ])

-- ---- the last in the list

-- an id above the last in a list that ascends is above all
pub below_last : (id : ℕ) (entries : List IdPlace) (last : IdPlace) → AreRising entries → 0 < length entries → last ≡ get_or entries (length entries - 1) last → last.id < id → AreBelow id entries
below_last id entries last rising some is above = λ k d within.
    let end : (get_or entries (length entries - 1) d).id < id = subst (λ (e : IdPlace). e.id < id) (is ∙ get_or_default entries (length entries - 1) last d (omega arith)) above in
    elim (cases_lt k (length entries - 1)) [
      | inl before ↦ omega (arith, end, rising k (length entries - 1) d before (omega arith))
      | inr after ↦ subst (λ (n : ℕ). (get_or entries n d).id < id) (omega arith) end
    ]

-- and an id above all is above the last
pub last_below : (id : ℕ) (entries : List IdPlace) (last : IdPlace) → AreBelow id entries → 0 < length entries → last ≡ get_or entries (length entries - 1) last → last.id < id
last_below id entries last below some is = subst (λ (e : IdPlace). e.id < id) (sym is) (below (length entries - 1) last (omega arith))

-- ---- the list and the map

place_behind : (first other : Option ℕ) (test : Bool) (place : ℕ) → (test ≡ true → other ≡ None)
    → option_or (option_or first (cond test (Some place) None)) other ≡ option_or (option_or first other) (cond test (Some place) None)
place_behind (Some p) other test place none = refl
place_behind None other true place none = ap (λ o. option_or o (Some place)) (sym (none refl))
place_behind None None false place none = refl
place_behind None (Some p) false place none = refl

-- one more id behind the list, where the map doesn't have it
pub places-push : (q : ℕ) (entries : List IdPlace) (last : IdPlace) (other : ℕ → Option ℕ) → other last.id ≡ None
    → option_or (place_among q (entries ++ last ∷ [])) (other q) ≡ option_or (option_or (place_among q entries) (other q)) (cond (eqb last.id q) (Some last.place) None)
places-push q entries last other none =
    ap (λ place. option_or place (other q)) (place_among-push q entries last)
    ∙ place_behind (place_among q entries) (other q) (eqb last.id q) last.place (λ same. subst (λ (i : ℕ). other i ≡ None) (eqb-true last.id q same) none)
