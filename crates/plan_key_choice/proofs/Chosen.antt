-- Choices that gain a column and lose it again.
use Rattle.std.proofs.Common.{◌≡◌, ℕ, zero, suc, ◌+◌, ◌-◌, ◌<◌, ◌≤◌, inl, inr, arith, List, [], ◌∷◌, ◌++◌, length, set, drop, get_or, Bool, true, false, eqb, ltb, refl, ap, subst, sym, ◌∙◌, eqb-true, eq-eqb}
use Rattle.std.specs.Prelude.{◌≢◌, ◌==◌, ◌↔◌, is_some, nat_le, Option, Some, None, IfSome, Vec}
use Rattle.std.specs.Global.{Global}
use Rattle.std.specs.List.{list_any, slice_get}
use Rattle.std.proofs.lemmas.Bool.{or_cases, or_left, or_right, le-leb, leb-true, ltb-true, ltb-false}
use Rattle.std.proofs.lemmas.List.{length-set, length-append}
use Rattle.std.proofs.lemmas.Option.{slice_get-get_or}
use Rattle.cedr_plan.specs.declared.plan.PlanNode.{PlanNode}
use Rattle.plan_keys.specs.Keys.{AreKeyed, column_at, width_at}
use Rattle.plan_key_choice.specs.Choices.{AreInWidths, KeepsKeyAt}
use Rattle.plan_key_choice.specs.Partial.{chosen_at, chosen_columns, candidates_of, AreAllChosen, TakeCandidates, AreCandidates, AreUnchosen, AwaitAll, HasChosen, IsBarren, IsSameChoice, is_among}
use Rattle.plan_key_choice.proofs.Places.{chosen_is, keyed_at}

-- a column that was set is chosen
pub chosen_same : (choice : List (Option ℕ)) (i : ℕ) (o : Option ℕ) → i < length choice → chosen_at (set choice i o) i ≡ o
chosen_same [] i o h = absurd (omega arith)
chosen_same (x ∷ choice) zero o h = refl
chosen_same (x ∷ choice) (suc i) o h = chosen_same choice i o (omega arith)

-- and the others stay
pub chosen_other : (choice : List (Option ℕ)) (i place : ℕ) (o : Option ℕ) → place ≢ i → chosen_at (set choice i o) place ≡ chosen_at choice place
chosen_other [] i place o apart = refl
chosen_other (x ∷ choice) zero zero o apart = absurd (apart refl)
chosen_other (x ∷ choice) zero (suc place) o apart = refl
chosen_other (x ∷ choice) (suc i) zero o apart = refl
chosen_other (x ∷ choice) (suc i) (suc place) o apart = chosen_other choice i place o (λ e. apart (ap (λ (n : ℕ). suc n) e))

-- a choice is itself
pub same_choice : (choice : List (Option ℕ)) → IsSameChoice choice choice
same_choice choice = record { count = refl; chosen = λ place. refl }

-- one that is the same as one that is the same is the same
pub same_on : (one other third : List (Option ℕ)) → IsSameChoice one other → IsSameChoice other third → IsSameChoice one third
same_on one other third first second = record { count = first.count ∙ second.count; chosen = λ place. first.chosen place ∙ second.chosen place }

-- what was tried at a place and taken back leaves the choice as it was
pub taken_back : (old before after : List (Option ℕ)) (i : ℕ) (tried : Option ℕ) → i < length old → chosen_at old i ≡ None → IsSameChoice before old → IsSameChoice after (set before i tried) → IsSameChoice (set after i None) old
taken_back old before after i tried within free same gone = record {
  count = length-set after i None ∙ (gone.count ∙ (length-set before i tried ∙ same.count));
  chosen = λ place. here_or_there place (eqb place i) refl;
} where
  here_or_there : (place : ℕ) (b : Bool) → eqb place i ≡ b → chosen_at (set after i None) place ≡ chosen_at old place
  here_or_there place true e =
      let is = eqb-true place i e in
      let inside : i < length after = omega (arith, within, gone.count, length-set before i tried, same.count) in
      subst (λ (p : ℕ). chosen_at (set after i None) p ≡ chosen_at old p) (sym is) (chosen_same after i None inside ∙ sym free)
  here_or_there place false e =
      let apart : place ≢ i = λ is. let same_place = eq-eqb place i is in cc in
      chosen_other after i place None apart ∙ (gone.chosen place ∙ (chosen_other before i place tried apart ∙ same.chosen place))

-- columns that are those of a choice are those of the choice that has one of them more
pub extends_more : (old before : List (Option ℕ)) (columns : List ℕ) (i c : ℕ) → i < length old → IsSameChoice before old → HasChosen old columns → column_at columns i ≡ c → HasChosen (set before i (Some c)) columns
extends_more old before columns i c within same extends is = λ place. here_or_there place (eqb place i) refl where
  here_or_there : (place : ℕ) (b : Bool) → eqb place i ≡ b → IfSome (chosen_at (set before i (Some c)) place) (λ (column : ℕ). column_at columns place ≡ column)
  here_or_there place true e =
      let at = eqb-true place i e in
      let inside : i < length before = omega (arith, within, same.count) in
      subst (λ (p : ℕ). IfSome (chosen_at (set before i (Some c)) p) (λ (column : ℕ). column_at columns p ≡ column)) (sym at)
      (subst (λ (o : Option ℕ). IfSome o (λ (column : ℕ). column_at columns i ≡ column)) (sym (chosen_same before i (Some c) inside)) is)
  here_or_there place false e =
      let apart : place ≢ i = λ is. let same_place = eq-eqb place i is in cc in
      subst (λ (o : Option ℕ). IfSome o (λ (column : ℕ). column_at columns place ≡ column)) (sym (chosen_other before i place (Some c) apart ∙ same.chosen place)) (extends place)

-- columns that are those of a choice are those of the same one
pub extends_same : (one other : List (Option ℕ)) (columns : List ℕ) → IsSameChoice one other → HasChosen other columns → HasChosen one columns
extends_same one other columns same extends = λ place. subst (λ (o : Option ℕ). IfSome o (λ (column : ℕ). column_at columns place ≡ column)) (sym (same.chosen place)) (extends place)

-- what is among columns from the k-th on is the k-th or is among those behind it
pub among_next : (own : List ℕ) (k c x : ℕ) → k < length own → c ≡ get_or own k c → c ≢ x → is_among (drop k own) x ≡ true → is_among (drop (k + 1) own) x ≡ true
among_next [] k c x within is apart h = absurd (omega arith)
among_next (y ∷ own) zero c x within is apart h = elim (or_cases (y == x) (list_any (λ (one : ℕ). one == x) own) h) [
  | inl here ↦ absurd (apart (is ∙ eqb-true y x here))
  | inr later ↦ later
]
among_next (y ∷ own) (suc k) c x within is apart h =
    let next : suc (k + 1) ≡ suc k + 1 = omega arith in
    subst (λ (n : ℕ). is_among (drop n (y ∷ own)) x ≡ true) next (among_next own k c x (omega arith) is apart h)

-- nothing is among the columns behind the last one
pub among_none : (own : List ℕ) (k x : ℕ) → length own ≤ k → is_among (drop k own) x ≡ true → ⊥
among_none [] zero x all h = cc
among_none [] (suc k) x all h = cc
among_none (y ∷ own) zero x all h = absurd (omega arith)
among_none (y ∷ own) (suc k) x all h = among_none own k x (omega arith) h

-- columns that go with no choice go with one that has none
pub extends_none : (choice : List (Option ℕ)) (columns : List ℕ) → AreUnchosen choice → HasChosen choice columns
extends_none choice columns unchosen = λ place. subst (λ (o : Option ℕ). IfSome o (λ (column : ℕ). column_at columns place ≡ column)) (sym (unchosen place)) tt

-- a column is among those that its node may have
pub own_among : (candidates : List (Vec ℕ Global)) (columns : List ℕ) (place : ℕ) (own : Vec ℕ Global) → place < length candidates → own ≡ get_or candidates place own → TakeCandidates candidates columns → is_among own.items (column_at columns place) ≡ true
own_among candidates columns place own within is among =
    let found : slice_get candidates place ≡ Some own = slice_get-get_or candidates place own within ∙ ap (λ (v : Vec ℕ Global). Some v) (sym is) in
    subst (λ (o : Option (Vec ℕ Global)). is_among (candidates_of o) (column_at columns place) ≡ true) found (among place within)

-- a column that comes behind others is among them
pub among_push : (own : List ℕ) (column x : ℕ) → (x < column → is_among own x ≡ true) → x < column + 1 → is_among (own ++ column ∷ []) x ≡ true
among_push own column x before below = here_or_there (eqb column x) refl where
  kept : (xs : List ℕ) → is_among xs x ≡ true → is_among (xs ++ column ∷ []) x ≡ true
  kept [] h = cc
  kept (y ∷ xs) h = elim (or_cases (y == x) (is_among xs x) h) [
    | inl this ↦ or_left (y == x) (is_among (xs ++ column ∷ []) x) this
    | inr later ↦ or_right (y == x) (is_among (xs ++ column ∷ []) x) (kept xs later)
  ]

  last : (xs : List ℕ) → eqb column x ≡ true → is_among (xs ++ column ∷ []) x ≡ true
  last [] e = or_left (column == x) false e
  last (y ∷ xs) e = or_right (y == x) (is_among (xs ++ column ∷ []) x) (last xs e)

  here_or_there : (b : Bool) → eqb column x ≡ b → is_among (own ++ column ∷ []) x ≡ true
  here_or_there true e = last own e
  here_or_there false e =
      let apart : column ≢ x = λ is. let same_place = eq-eqb column x is in cc in
      kept own (before (omega (arith, apart, below)))

-- what was among columns up to one that it isn't was among those before it
pub among_kept : (own : List ℕ) (column x : ℕ) → (x < column → is_among own x ≡ true) → column ≢ x → x < column + 1 → is_among own x ≡ true
among_kept own column x before apart below = before (omega (arith, apart, below))

at_before : (candidates : List (Vec ℕ Global)) (own : Vec ℕ Global) (place : ℕ) → place < length candidates → slice_get (candidates ++ own ∷ []) place ≡ slice_get candidates place
at_before [] own place h = absurd (omega arith)
at_before (v ∷ candidates) own zero h = refl
at_before (v ∷ candidates) own (suc place) h = at_before candidates own place (omega arith)

at_last : (candidates : List (Vec ℕ Global)) (own : Vec ℕ Global) → slice_get (candidates ++ own ∷ []) (length candidates) ≡ Some own
at_last [] own = refl
at_last (v ∷ candidates) own = at_last candidates own

-- the columns that the next node may have
abbrev pub IsNext : List (Vec ℕ Global) → Vec ℕ Global → List PlanNode → ℕ → Type 0
IsNext candidates own nodes place = (columns : List ℕ) → AreInWidths columns nodes → TakeCandidates candidates columns → KeepsKeyAt columns nodes place → is_among own.items (column_at columns place) ≡ true

-- go with those that the nodes before it may have
pub candidates_more : (candidates : List (Vec ℕ Global)) (own : Vec ℕ Global) (nodes : List PlanNode) (place : ℕ) → length candidates ≡ place → place < length nodes → AreCandidates candidates nodes → IsNext candidates own nodes place → AreCandidates (candidates ++ own ∷ []) nodes
candidates_more candidates own nodes place many within known next columns widths keyed at h = before_or_last (ltb at place) refl where
  among : TakeCandidates candidates columns
  among = known columns widths keyed

  before_or_last : (b : Bool) → ltb at place ≡ b → is_among (candidates_of (slice_get (candidates ++ own ∷ []) at)) (column_at columns at) ≡ true
  before_or_last true e =
      let early : at < length candidates = omega (arith, ltb-true at place e, many) in
      subst (λ (o : Option (Vec ℕ Global)). is_among (candidates_of o) (column_at columns at) ≡ true) (sym (at_before candidates own at early)) (among at early)
  before_or_last false e =
      let is : at ≡ place = omega (arith, ltb-false at place e, many, h, length-append candidates (own ∷ [])) in
      let last : slice_get (candidates ++ own ∷ []) at ≡ Some own = ap (slice_get (candidates ++ own ∷ [])) (is ∙ sym many) ∙ at_last candidates own in
      subst (λ (o : Option (Vec ℕ Global)). is_among (candidates_of o) (column_at columns at) ≡ true) (sym last)
      (subst (λ (p : ℕ). is_among own.items (column_at columns p) ≡ true) (sym is) (next columns widths among (keyed_at columns nodes place keyed within)))

-- a column that is in the widths isn't past that of its node
pub not_wide : (choice : List (Option ℕ)) (columns : List ℕ) (nodes : List PlanNode) (place : ℕ) (answer : Bool) → place < length nodes → chosen_at choice place ≢ None → IfSome (chosen_at choice place) (λ (column : ℕ). answer ≡ nat_le column (width_at nodes place - 1)) → HasChosen choice columns
    → AreInWidths columns nodes → answer ≡ false → ⊥
not_wide choice columns nodes place answer within there says extends widths refused =
    let is = chosen_is choice place there in
    let own = subst (λ (o : Option ℕ). IfSome o (λ (column : ℕ). answer ≡ nat_le column (width_at nodes place - 1))) is says in
    let same = subst (λ (o : Option ℕ). IfSome o (λ (column : ℕ). column_at columns place ≡ column)) is (extends place) in
    let fits = le-leb (column_at (chosen_columns choice) place) (width_at nodes place - 1) (subst (λ (c : ℕ). c ≤ width_at nodes place - 1) same (widths place within)) in
    cc (own, fits, refused)

-- and one that was found to be one of its node's columns is in the widths
pub is_wide : (choice : List (Option ℕ)) (nodes : List PlanNode) (place : ℕ) (answer : Bool) → chosen_at choice place ≢ None → IfSome (chosen_at choice place) (λ (column : ℕ). answer ≡ nat_le column (width_at nodes place - 1)) → answer ≡ true
    → column_at (chosen_columns choice) place ≤ width_at nodes place - 1
is_wide choice nodes place answer there says fits =
    let own = subst (λ (o : Option ℕ). IfSome o (λ (column : ℕ). answer ≡ nat_le column (width_at nodes place - 1))) (chosen_is choice place there) says in
    leb-true (column_at (chosen_columns choice) place) (width_at nodes place - 1) (sym own ∙ fits)

-- nodes that are still to get a column are behind one that has one
pub awaits_rest : (order : List ℕ) (choice : List (Option ℕ)) (place : ℕ) → chosen_at choice place ≢ None → AwaitAll (place ∷ order) choice → AwaitAll order choice
awaits_rest order choice place chosen awaits at h none = elim (or_cases (place == at) (is_among order at) (awaits at h none)) [
  | inl here ↦ absurd (chosen (ap (chosen_at choice) (eqb-true place at here) ∙ none))
  | inr later ↦ later
]

-- or behind one that gets one
pub awaits_set : (order : List ℕ) (old before : List (Option ℕ)) (place c : ℕ) → place < length old → IsSameChoice before old → AwaitAll (place ∷ order) old → AwaitAll order (set before place (Some c))
awaits_set order old before place c within same awaits at h none = here_or_there (eqb place at) refl where
  here_or_there : (b : Bool) → eqb place at ≡ b → is_among order at ≡ true
  here_or_there true e =
      let is = eqb-true place at e in
      let set_there = chosen_same before place (Some c) (omega (arith, within, same.count)) in
      let free : chosen_at (set before place (Some c)) place ≡ None = ap (chosen_at (set before place (Some c))) is ∙ none in
      cc
  here_or_there false e =
      let apart : at ≢ place = λ is. let same_place = eq-eqb place at (sym is) in cc in
      let inside : at < length old = omega (arith, h, length-set before place (Some c), same.count) in
      let free : chosen_at old at ≡ None = sym (chosen_other before place at (Some c) apart ∙ same.chosen at) ∙ none in
      elim (or_cases (place == at) (is_among order at) (awaits at inside free)) [
        | inl here ↦ cc
        | inr later ↦ later
      ]

-- where all are awaited and none is left, all are chosen
pub all_chosen : (choice : List (Option ℕ)) → AwaitAll [] choice → AreAllChosen choice
all_chosen choice awaits place h none = let there = awaits place h none in cc

-- where a node may have no column, none are kept by all
pub barren_none : (candidates : List (Vec ℕ Global)) (nodes : List PlanNode) (place : ℕ) → AreCandidates candidates nodes → IsBarren candidates place → (columns : List ℕ) → AreInWidths columns nodes → AreKeyed columns [] nodes → ⊥
barren_none candidates nodes place known barren columns widths keyed =
    let among = known columns widths keyed place barren.there in
    let empty = barren.none in
    cc

-- what holds of all places before one and of that holds of all up to it
pub up_to : (place : ℕ) (P : ℕ → Type 0) → ((k : ℕ) → k < place → P k) → P place → (k : ℕ) → k < place + 1 → P k
up_to place P before here k h = by_turn (ltb k place) refl where
  by_turn : (b : Bool) → ltb k place ≡ b → P k
  by_turn true e = before k (ltb-true k place e)
  by_turn false e = let is : place ≡ k = omega (arith, ltb-false k place e, h) in subst P is here

-- what is some isn't none
pub some_there : (o : Option ℕ) → is_some o ≡ true → o ≢ None
some_there None h = cc
some_there (Some c) h = λ e. cc

-- and what isn't some is none
pub none_there : (o : Option ℕ) → is_some o ≡ false → o ≡ None
none_there None h = refl
none_there (Some c) h = cc

-- nodes that are still to get a column are so behind the same choice
pub awaits_same : (order : List ℕ) (one other : List (Option ℕ)) → IsSameChoice one other → AwaitAll order other → AwaitAll order one
awaits_same order one other same awaits at h none = awaits at (omega (arith, h, same.count)) (sym (same.chosen at) ∙ none)

-- a limit that is there as another is, which is there as a third
pub limited_on : (one other third fourth : Option ℕ) → one ≡ None ↔ other ≡ None → other ≡ third → third ≡ None ↔ fourth ≡ None → one ≡ None ↔ fourth ≡ None
limited_on one other third fourth first same last = (λ e. last.0 (sym same ∙ first.0 e), λ e. first.1 (same ∙ last.1 e))
