-- Ids with their places by ascending ids, and the ids of events that ascend.
use Rattle.std.proofs.Common.{◌≡◌, ℕ, zero, suc, ◌+◌, ◌<◌, ◌≤◌, List, [], ◌∷◌, ◌++◌, map, length, length-append, get_or, Bool, true, false, cond, eqb, Option, None, Some, inl, inr, refl, ap, sym, ◌∙◌, subst, arith}
use Rattle.std.specs.Prelude.{option_map, is_some, sum_by, AllPairs}
use Rattle.std.specs.declared.cmp.Ordering.TheVariants.{Less}
use Rattle.std.specs.Ordering.{nat_cmp, is_eq}
use Rattle.std.specs.Option.{option_or}
use Rattle.std.specs.List.{AllByRecursion}
use Rattle.std.specs.List.Sorted.{IsPermutation, IsNonDecreasingBy, IsStrictlySortedBy}
use Rattle.std.specs.Map.{keys_of, lookup}
use Rattle.std.specs.BTreeMap.{is_at}
use Rattle.std.proofs.lemmas.Bool.{cases_lt, eqb-true, eq-eqb}
use Rattle.std.proofs.lemmas.Bool.Decides.{nat_tests}
use Rattle.std.proofs.lemmas.List.Sorted.{sum_by-IsPermutation}
use Rattle.std.proofs.lemmas.List.Sums.{sum_by-cons, sum_by-append}
use Rattle.std.proofs.lemmas.List.{get_or_append_left}
use Rattle.std.proofs.lemmas.Map.Keys.{sorted_head, sorted_tail}
use Rattle.cedr_guard.specs.declared.ids.IdPlace.{IdPlace}
use Rattle.cedr_guard.specs.declared.state.EventState.{EventState}
use Rattle.cedr_guard.specs.Ids.{place_among, AreRising, AreBelow, entry_id, place_entry, placed_from, place_of_id}

-- ---- how often an id stands in a list

abbrev one_copy : ℕ → IdPlace → ℕ
one_copy id entry = cond (eqb entry.id id) 1 0

abbrev pub copies_of : ℕ → List IdPlace → ℕ
copies_of id entries = sum_by (one_copy id) entries

abbrev one_place : ℕ → IdPlace → ℕ
one_place id entry = cond (eqb entry.id id) (suc entry.place) 0

abbrev places_of : ℕ → List IdPlace → ℕ
places_of id entries = sum_by (one_place id) entries

abbrev as_number : Option ℕ → ℕ
as_number None = 0
as_number (Some place) = suc place

one_option : (a b : Option ℕ) → as_number a ≡ as_number b → a ≡ b
one_option None None h = refl
one_option None (Some q) h = absurd (omega arith)
one_option (Some p) None h = absurd (omega arith)
one_option (Some p) (Some q) h = ap {B = Option ℕ} (λ (n : ℕ). Some n) (omega arith)

no_places_at : (b : Bool) (place copies places : ℕ) → cond b 1 0 + copies ≡ 0 → (copies ≡ 0 → places ≡ 0) → cond b (suc place) 0 + places ≡ 0
no_places_at true place copies places none rest = absurd (omega arith)
no_places_at false place copies places none rest = let r = rest (omega arith) in omega arith

no_places : (id : ℕ) (entries : List IdPlace) → copies_of id entries ≡ 0 → places_of id entries ≡ 0
no_places id [] none = refl
no_places id (entry ∷ entries) none =
    sum_by-cons (one_place id) entry entries
    ∙ no_places_at (eqb entry.id id) entry.place (copies_of id entries) (places_of id entries) (sym (sum_by-cons (one_copy id) entry entries) ∙ none) (no_places id entries)

place_number_at : (b : Bool) (place copies places : ℕ) (rest : Option ℕ) → cond b 1 0 + copies ≤ 1 → (copies ≡ 0 → places ≡ 0) → (copies ≤ 1 → as_number rest ≡ places) → as_number (cond b (Some place) rest) ≡ cond b (suc place) 0 + places
place_number_at true place copies places rest few none later = let n = none (omega arith) in omega arith
place_number_at false place copies places rest few none later = let n = later (omega arith) in omega arith

-- the place of an id that stands once at most is a sum, in which the order doesn't matter
place_number : (id : ℕ) (entries : List IdPlace) → copies_of id entries ≤ 1 → as_number (place_among id entries) ≡ places_of id entries
place_number id [] few = refl
place_number id (entry ∷ entries) few =
    let cons = sum_by-cons (one_copy id) entry entries in
    place_number_at (eqb entry.id id) entry.place (copies_of id entries) (places_of id entries) (place_among id entries) (omega (arith, few, cons)) (no_places id entries) (place_number id entries)
    ∙ sym (sum_by-cons (one_place id) entry entries)

none_copies_at : (b : Bool) (place copies : ℕ) (rest : Option ℕ) → cond b (Some place) rest ≡ None → (rest ≡ None → copies ≡ 0) → cond b 1 0 + copies ≡ 0
none_copies_at true place copies rest none later = absurd (let h = none in cc)
none_copies_at false place copies rest none later = let n = later none in omega arith

-- an id without a place doesn't stand there
none_copies : (id : ℕ) (entries : List IdPlace) → place_among id entries ≡ None → copies_of id entries ≡ 0
none_copies id [] none = refl
none_copies id (entry ∷ entries) none =
    sum_by-cons (one_copy id) entry entries ∙ none_copies_at (eqb entry.id id) entry.place (copies_of id entries) (place_among id entries) none (none_copies id entries)

-- ---- a list that is put in order

same_copies : (xs ys : List IdPlace) → IsPermutation xs ys → ((id : ℕ) → copies_of id xs ≤ 1) → (id : ℕ) → copies_of id ys ≤ 1
same_copies xs ys moved few id = omega (arith, few id, sum_by-IsPermutation (one_copy id) xs ys moved)

-- each id keeps its place
pub same_places : (xs ys : List IdPlace) → IsPermutation xs ys → ((id : ℕ) → copies_of id xs ≤ 1) → (id : ℕ) → place_among id ys ≡ place_among id xs
same_places xs ys moved few id =
    one_option (place_among id ys) (place_among id xs)
    (place_number id ys (same_copies xs ys moved few id) ∙ (sum_by-IsPermutation (one_place id) xs ys moved ∙ sym (place_number id xs (few id))))

here_once : (entry : IdPlace) (id : ℕ) → entry.id ≡ id → one_copy id entry ≡ 1
here_once entry id h = ap (λ (b : Bool). cond {A = ℕ} b 1 0) (eq-eqb entry.id id h)

stands_once : (entries : List IdPlace) (k : ℕ) (d : IdPlace) → k < length entries → 1 ≤ copies_of (get_or entries k d).id entries
stands_once [] k d within = absurd (omega arith)
stands_once (entry ∷ entries) zero d within = omega (arith, sum_by-cons (one_copy entry.id) entry entries, here_once entry entry.id refl)
stands_once (entry ∷ entries) (suc k) d within = omega (arith, sum_by-cons (one_copy (get_or entries k d).id) entry entries, stands_once entries k d (omega arith))

stands_twice : (entries : List IdPlace) (i j : ℕ) (d : IdPlace) → i < j → j < length entries → (get_or entries i d).id ≡ (get_or entries j d).id → 2 ≤ copies_of (get_or entries j d).id entries
stands_twice [] i j d low within same = absurd (omega arith)
stands_twice (entry ∷ entries) i zero d low within same = absurd (omega arith)
stands_twice (entry ∷ entries) zero (suc j) d low within same =
    omega (arith, sum_by-cons (one_copy (get_or entries j d).id) entry entries, here_once entry (get_or entries j d).id same, stands_once entries j d (omega arith))
stands_twice (entry ∷ entries) (suc i) (suc j) d low within same =
    omega (arith, sum_by-cons (one_copy (get_or entries j d).id) entry entries, stands_twice entries i j d (omega arith) (omega arith) same)

-- and the ids ascend
pub rising_sorted : (xs ys : List IdPlace) → IsPermutation xs ys → IsNonDecreasingBy entry_id ys → ((id : ℕ) → copies_of id xs ≤ 1) → AreRising ys
rising_sorted xs ys moved sorted few i j d low within = elim (cases_lt (get_or ys i d).id (get_or ys j d).id) [
  | inl below ↦ below
  | inr above ↦
      let same : (get_or ys i d).id ≡ (get_or ys j d).id = (let s = sorted i j d (omega arith) within in omega arith) in
      absurd (omega (arith, stands_twice ys i j d low within same, same_copies xs ys moved few (get_or ys j d).id))
]

-- ---- ids in a list that ascends, and in a map

low_apart : (a b : ℕ) → a < b → eqb b a ≡ false
low_apart a b h = grind (arith, nat_tests)

none_higher : (id : ℕ) (entries : List IdPlace) → ((k : ℕ) (d : IdPlace) → k < length entries → id < (get_or entries k d).id) → copies_of id entries ≡ 0
none_higher id [] above = refl
none_higher id (entry ∷ entries) above =
    sum_by-cons (one_copy id) entry entries
    ∙ (let apart = ap (λ (b : Bool). cond {A = ℕ} b 1 0) (low_apart id entry.id (above 0 entry (omega arith))) in
    let rest = none_higher id entries (λ k d within. above (suc k) d (omega arith)) in
    omega arith)

once_at : (b : Bool) (copies : ℕ) → (b ≡ true → copies ≡ 0) → copies ≤ 1 → cond b 1 0 + copies ≤ 1
once_at true copies none few = let n = none refl in omega arith
once_at false copies none few = omega arith

once_rising : (id : ℕ) (entries : List IdPlace) → AreRising entries → copies_of id entries ≤ 1
once_rising id [] rising = omega arith
once_rising id (entry ∷ entries) rising =
    let later = λ (here : eqb entry.id id ≡ true). none_higher id entries (λ k d within.
    subst (λ (n : ℕ). n < (get_or entries k d).id) (eqb-true entry.id id here) (rising 0 (suc k) d (omega arith) (omega arith))) in
    let first = once_at (eqb entry.id id) (copies_of id entries) later (once_rising id entries (λ i j d low within. rising (suc i) (suc j) d (omega arith) (omega arith))) in
    omega (arith, first, sum_by-cons (one_copy id) entry entries)

same_test : (id key : ℕ) → is_eq (nat_cmp id key) ≡ eqb key id
same_test id key = grind (arith, nat_tests)

-- what a map finds is the place among its entries
map_place : (id : ℕ) (entries : List (ℕ × ℕ)) → place_among id (map place_entry entries) ≡ lookup (is_at (nat_cmp id)) entries
map_place id [] = refl
map_place id (entry ∷ entries) =
    ap (λ (o : Option ℕ). cond (eqb entry.0 id) (Some entry.1) o) (map_place id entries)
    ∙ ap (λ (b : Bool). cond b (Some entry.1) (lookup (is_at (nat_cmp id)) entries)) (sym (same_test id entry.0))

less_apart : (a b : ℕ) → nat_cmp a b ≡ Less → eqb b a ≡ false
less_apart a b h = grind (arith, nat_tests)

none_after : (id : ℕ) (entries : List (ℕ × ℕ)) → AllByRecursion (λ (key : ℕ). nat_cmp id key ≡ Less) (keys_of entries) → copies_of id (map place_entry entries) ≡ 0
none_after id [] all = refl
none_after id (entry ∷ entries) all =
    sum_by-cons (one_copy id) (place_entry entry) (map place_entry entries)
    ∙ (let apart = ap (λ (b : Bool). cond {A = ℕ} b 1 0) (less_apart id entry.0 all.0) in
    let rest = none_after id entries all.1 in
    omega arith)

once_mapped : (id : ℕ) (entries : List (ℕ × ℕ)) → IsStrictlySortedBy nat_cmp (keys_of entries) → copies_of id (map place_entry entries) ≤ 1
once_mapped id [] sorted = omega arith
once_mapped id (entry ∷ entries) sorted =
    let later = λ (here : eqb entry.0 id ≡ true). none_after id entries
    (subst (λ (n : ℕ). AllByRecursion (λ (key : ℕ). nat_cmp n key ≡ Less) (keys_of entries)) (eqb-true entry.0 id here) (sorted_head nat_cmp entry.0 (keys_of entries) sorted)) in
    let first = once_at (eqb entry.0 id) (copies_of id (map place_entry entries)) later (once_mapped id entries (sorted_tail nat_cmp entry.0 (keys_of entries) sorted)) in
    omega (arith, first, sum_by-cons (one_copy id) (place_entry entry) (map place_entry entries))

or_behind : (test : Bool) (place : ℕ) (first other : Option ℕ) → cond test (Some place) (option_or first other) ≡ option_or (cond test (Some place) first) other
or_behind true place first other = refl
or_behind false place first other = refl

place_append : (id : ℕ) (xs ys : List IdPlace) → place_among id (xs ++ ys) ≡ option_or (place_among id xs) (place_among id ys)
place_append id [] ys = refl
place_append id (entry ∷ xs) ys =
    ap (λ (o : Option ℕ). cond (eqb entry.id id) (Some entry.place) o) (place_append id xs ys) ∙ or_behind (eqb entry.id id) entry.place (place_among id xs) (place_among id ys)

-- the ids of a list, and behind them those of a map, are found as in the list and then in the map
pub gathered_places : (id : ℕ) (rising : List IdPlace) (entries : List (ℕ × ℕ)) → place_among id (rising ++ map place_entry entries) ≡ option_or (place_among id rising) (lookup (is_at (nat_cmp id)) entries)
gathered_places id rising entries = place_append id rising (map place_entry entries) ∙ ap (λ (o : Option ℕ). option_or (place_among id rising) o) (map_place id entries)

once_both : (id : ℕ) (rising : List IdPlace) (entries : List (ℕ × ℕ)) (place : Option ℕ) → place_among id rising ≡ place → (is_some place ≡ true → lookup (is_at (nat_cmp id)) entries ≡ None)
    → copies_of id rising ≤ 1 → copies_of id (map place_entry entries) ≤ 1 → copies_of id rising + copies_of id (map place_entry entries) ≤ 1
once_both id rising entries None is apart few others = let n = none_copies id rising is in omega arith
once_both id rising entries (Some place) is apart few others = let n = none_copies id (map place_entry entries) (map_place id entries ∙ apart refl) in omega arith

-- each of them stands once at most, where none stands in both
pub gathered_once : (rising : List IdPlace) (entries : List (ℕ × ℕ)) → AreRising rising → IsStrictlySortedBy nat_cmp (keys_of entries)
    → ((id : ℕ) → is_some (place_among id rising) ≡ true → lookup (is_at (nat_cmp id)) entries ≡ None) → (id : ℕ) → copies_of id (rising ++ map place_entry entries) ≤ 1
gathered_once rising entries up sorted apart id =
    let both = once_both id rising entries (place_among id rising) refl (apart id) (once_rising id rising up) (once_mapped id entries sorted) in
    omega (arith, both, sum_by-append (one_copy id) rising (map place_entry entries))

-- ---- one id more in the list

both_at : (first other : Option ℕ) (test : Bool) (place : ℕ) → (is_some first ≡ true → other ≡ None) → (test ≡ true → other ≡ None) → is_some (option_or first (cond test (Some place) None)) ≡ true → other ≡ None
both_at (Some p) other test place in_list new h = in_list refl
both_at None other true place in_list new h = new refl
both_at None other false place in_list new h = absurd (let e = h in cc)

-- an id in the longer list isn't in the map
pub apart_push : (q : ℕ) (entries : List IdPlace) (last : IdPlace) (other : ℕ → Option ℕ) → ((id : ℕ) → is_some (place_among id entries) ≡ true → other id ≡ None) → other last.id ≡ None
    → is_some (place_among q (entries ++ last ∷ [])) ≡ true → other q ≡ None
apart_push q entries last other apart new h =
    both_at (place_among q entries) (other q) (eqb last.id q) last.place (apart q) (λ same. subst (λ (i : ℕ). other i ≡ None) (eqb-true last.id q same) new)
    (ap is_some (sym (place_append q entries (last ∷ []))) ∙ h)

-- ---- the ids of events

next_at : (test : Bool) (place : ℕ) (rest : Option ℕ) → cond test (Some place) (option_map (λ (n : ℕ). (place + 1) + n) rest) ≡ option_map (λ (n : ℕ). place + n) (cond test (Some 0) (option_map (λ (n : ℕ). suc n) rest))
next_at true place rest = ap {B = Option ℕ} (λ (n : ℕ). Some n) (omega arith)
next_at false place None = refl
next_at false place (Some p) = ap {B = Option ℕ} (λ (n : ℕ). Some n) (omega arith)

placed_at : (id place : ℕ) (events : List EventState) → place_among id (placed_from place events) ≡ option_map (λ (n : ℕ). place + n) (place_of_id id events)
placed_at id place [] = refl
placed_at id place (e ∷ events) =
    ap (λ (o : Option ℕ). cond (eqb e.id id) (Some place) o) (placed_at id (place + 1) events) ∙ next_at (eqb e.id id) place (place_of_id id events)

from_zero : (place : Option ℕ) → option_map (λ (n : ℕ). 0 + n) place ≡ place
from_zero None = refl
from_zero (Some p) = ap {B = Option ℕ} (λ (n : ℕ). Some n) (omega arith)

-- they have the places of the events
pub placed_places : (id : ℕ) (events : List EventState) → place_among id (placed_from 0 events) ≡ place_of_id id events
placed_places id events = placed_at id 0 events ∙ from_zero (place_of_id id events)

placed_id : (place : ℕ) (events : List EventState) (k : ℕ) (d : IdPlace) (e : EventState) → k < length events → (get_or (placed_from place events) k d).id ≡ (get_or events k e).id
placed_id place [] k d e within = absurd (omega arith)
placed_id place (first ∷ events) zero d e within = refl
placed_id place (first ∷ events) (suc k) d e within = placed_id (place + 1) events k d e (omega arith)

placed_count : (place : ℕ) (events : List EventState) → length (placed_from place events) ≡ length events
placed_count place [] = refl
placed_count place (e ∷ events) = let rest = placed_count (place + 1) events in omega arith

no_event : EventState
no_event = record { id = 0; begin = 0; end = 0; payload = [] }

-- and ascend as these do
pub placed_rising : (events : List EventState) → AllPairs (λ (e : EventState) (later : EventState). e.id < later.id) events → AreRising (placed_from 0 events)
placed_rising events up i j d low within =
    let count = placed_count 0 events in
    let below = up i j no_event low (omega arith) in
    omega (arith, below, placed_id 0 events i d no_event (omega arith), placed_id 0 events j d no_event (omega arith))

-- what isn't in the map either way
pub no_other : (first other : Option ℕ) → other ≡ None → option_or first other ≡ first
no_other None other none = none
no_other (Some p) other none = refl

-- an id above all of a longer list is above all of its front
pub below_front : (id : ℕ) (entries more : List IdPlace) → AreBelow id (entries ++ more) → AreBelow id entries
below_front id entries more below k d within =
    subst (λ (entry : IdPlace). entry.id < id) (get_or_append_left entries more d k within) (below k d (omega (arith, length-append entries more)))
