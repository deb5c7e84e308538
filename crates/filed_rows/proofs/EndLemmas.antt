-- The ends of filed rows, and what changes them.
use Rattle.std.proofs.Common.{◌≡◌, ◌≢◌, ℕ, ◌<◌, ◌≤◌, ◌⊎◌, inl, inr, List, [], ◌∷◌, ◌++◌, Bool, true, false, cond, not, Option, Some, refl, ap, sym, ◌∙◌, subst, arith}
use Rattle.std.specs.Prelude.{unwrap_or}
use Rattle.std.specs.List.{filter, All, Contains}
use Rattle.std.specs.List.Sorted.{IsPermutation, IsStrictlySortedBy}
use Rattle.std.specs.Map.{keys_of}
use Rattle.std.specs.BTreeMap.{is_at}
use Rattle.std.specs.Map.Calls.{RetainsPairs}
use Rattle.std.specs.Ordering.{nat_cmp}
use Rattle.std.proofs.lemmas.Bool.{cases_lt, cases_eq, lt-ltb, ltb-true}
use Rattle.std.proofs.lemmas.List.Elements.{All-contains, Contains-append_left, Contains-append_right, Contains-append_cases, Contains-push, Contains-push_cases}
use Rattle.std.proofs.lemmas.List.Sorted.{Contains-permutation}
use Rattle.cedr_base.specs.declared.time.TheConstants.{FOREVER}
use Rattle.cedr_base.specs.declared.row.Row.{Row}
use Rattle.cedr_base.specs.declared.change.Change.{Change}
use Rattle.cedr_base.specs.declared.change.Change.TheVariants.{Add, Cut}
use Rattle.cedr_base.specs.Rows.{count_of, SameRows}
use Rattle.cedr_base.specs.Changes.{puts, takes}
use Rattle.cedr_base.proofs.Bags.{count_of-append, one_if_same_exact}
use Rattle.change_laws.proofs.BagSums.{count_of-itself}
use Rattle.change_laws.proofs.Moves.{remnant_some}
use Rattle.cedr_table.specs.Counted.{SameAmong, ends_after}
use Rattle.cedr_table.proofs.FilterLemmas.{count-filter, among_along, among_filter}
use Rattle.filed_rows.specs.Filed.{FiledRows, under, filed_at, IsInUse}
use Rattle.filed_rows.specs.Ends.{AreEnds}
use Rattle.filed_rows.proofs.FiledLemmas.{under_first, under_later, beyond}

-- what came is there
pub came_there : (due : ℕ × ℕ) (old new : List (ℕ × ℕ)) → IsPermutation (due ∷ old) new → Contains new due
came_there due old new came = Contains-permutation (due ∷ old) new due came (Contains-append_left (due ∷ []) old due (Contains-push [] due))

-- and what was there stays
pub stays_there : (due other : ℕ × ℕ) (old new : List (ℕ × ℕ)) → IsPermutation (due ∷ old) new → Contains old other → Contains new other
stays_there due other old new came there = Contains-permutation (due ∷ old) new other came (Contains-append_right (due ∷ []) old other there)

is_first : (due other : ℕ × ℕ) → Contains (due ∷ []) other → due ≡ other
is_first due other has = elim (Contains-push_cases [] due other has) [ inl none ↦ absurd (let less = none.1 in omega arith) | inr same ↦ same ]

-- what is another one than the one that went is left
left_there : (due other : ℕ × ℕ) (old new : List (ℕ × ℕ)) → IsPermutation old (due ∷ new) → (due ≡ other → ⊥) → Contains old other → Contains new other
left_there due other old new went apart has = elim (Contains-append_cases (due ∷ []) new other (Contains-permutation old (due ∷ new) other went has)) [
  | inl first ↦ absurd (apart (is_first due other first))
  | inr rest ↦ rest
]

-- a row of a filtered bag passes, and is in the bag
filtered_there : (p : Row → Bool) (r : Row) (xs : List Row) → 0 < count_of r (filter p xs) → (p r ≡ true) × (0 < count_of r xs)
filtered_there p r xs there = passes (p r) refl where
  passes : (b : Bool) → p r ≡ b → (p r ≡ true) × (0 < count_of r xs)
  passes true is = (is, omega (arith, there, count-filter r p xs, ap {B = ℕ} (λ b. cond b (count_of r xs) 0) is))
  passes false is = absurd (omega (arith, there, count-filter r p xs, ap {B = ℕ} (λ b. cond b (count_of r xs) 0) is))

-- under a tag to which a row came there is one
pub added_use : (filed : FiledRows) (tag : ℕ) (row : Row) (others : List Row) → SameRows (under filed tag) (row ∷ others) → IsInUse filed tag
added_use filed tag row others same rows at none =
    let empty : under filed tag ≡ [] = ap (λ (o : Option (List Row)). unwrap_or o []) at ∙ none in
    let there = count_of-itself row others in
    omega (arith, there, same.each row, ap (count_of row) empty)

-- where nothing changed at the other tags and a row is under the one, no tag is without a row
pub all_in_use : (tag : ℕ) (old new : FiledRows) → ((q : ℕ) → q ≢ tag → filed_at new q ≡ filed_at old q) → IsInUse new tag → ((q : ℕ) → IsInUse old q) → (q : ℕ) → IsInUse new q
all_in_use tag old new apart here were q = pick (cases_eq q tag) where
  pick : (q ≡ tag) ⊎ (q ≢ tag) → IsInUse new q
  pick (inl same) = subst (IsInUse new) (sym same) here
  pick (inr other) = λ rows at. were q rows (sym (apart q other) ∙ at)

use_first : (b : Bool) (w : List Row) (o : Option (List Row)) → w ≢ [] → ((rows : List Row) → o ≡ Some rows → rows ≢ []) → (rows : List Row) → cond b (Some w) o ≡ Some rows → rows ≢ []
use_first true w o some rest rows at = λ none. let is : w ≡ rows = cc in some (is ∙ none)
use_first false w o some rest rows at = rest rows at

use_next : (b : Bool) (tag : ℕ) (w : List Row) (rest : FiledRows) (q : ℕ) → (b ≡ true → w ≢ []) → IsInUse rest q → IsInUse (cond b ((tag, w) ∷ rest) rest) q
use_next true tag w rest q some left = use_first (is_at (nat_cmp q) tag) w (filed_at rest q) (some refl) left
use_next false tag w rest q some left = left

module _ {F : Type 0} (T : F → ℕ → List Row → Bool → List Row → F → Type 0) (I : F → Type 0)
    (step : (g : F) (k : ℕ) (v : List Row) (b : Bool) (w : List Row) (g' : F) → I g → T g k v b w g' → (b ≡ true → w ≢ []) × I g') where
  -- where a tag goes with its last row, no tag is left without one
  pub retained_use : (f : F) (es kept : FiledRows) → I f → RetainsPairs T f es kept → (q : ℕ) → IsInUse kept q
  retained_use f [] kept is run q = λ rows at. absurd (let none = ap (λ (ds : FiledRows). filed_at ds q) run in cc)
  retained_use f (e ∷ es) kept is (b, w, g, rest, called, run, made) q =
      let said = step f e.0 e.1 b w g is called in
      subst (λ (ds : FiledRows). IsInUse ds q) (sym made) (use_next b e.0 w rest q said.0 (retained_use g es rest said.1 run q))

-- the end of a row that comes is there
pub put_added : (c : Change) (a r : Row) (tag : ℕ) (ends : List (ℕ × ℕ)) → c ≡ Add a → (a.end < FOREVER → Contains ends (a.end, tag)) → 0 < count_of r (puts c) → r.end < FOREVER → Contains ends (r.end, tag)
put_added c a r tag ends is has put before =
    let there : 0 < count_of r (a ∷ []) = subst (λ (d : Change). 0 < count_of r (puts d)) is put in
    let same : r ≡ a = one_if_same_exact r a (omega (arith, there)) in
    subst (λ (x : Row). x.end < FOREVER → Contains ends (x.end, tag)) (sym same) has before

-- and so is that of what is left of a row
pub put_cut : (c : Change) (a r : Row) (e tag : ℕ) (ends : List (ℕ × ℕ)) → c ≡ Cut a e → a.begin < e → (e < FOREVER → Contains ends (e, tag)) → 0 < count_of r (puts c) → r.end < FOREVER → Contains ends (r.end, tag)
put_cut c a r e tag ends is lives has put before =
    let there : 0 < count_of r (record a { end = e } ∷ []) = subst (λ (rows : List Row). 0 < count_of r rows) (remnant_some a e lives) (subst (λ (d : Change). 0 < count_of r (puts d)) is put) in
    let same : r ≡ record a { end = e } = one_if_same_exact r (record a { end = e }) (omega (arith, there)) in
    subst (λ (x : Row). x.end < FOREVER → Contains ends (x.end, tag)) (sym same) has before

module _ (c : Change) (tag : ℕ) (old new : FiledRows) (ends ends' : List (ℕ × ℕ)) (are : AreEnds old ends)
    (here : SameRows (under new tag ++ takes c) (under old tag ++ puts c))
    (others : (q : ℕ) → q ≢ tag → under new q ≡ under old q)
    (apart : (q : ℕ) → q ≢ tag → filed_at new q ≡ filed_at old q) (used : IsInUse new tag)
    (noted : (r : Row) → 0 < count_of r (puts c) → r.end < FOREVER → Contains ends' (r.end, tag))
    (stay : (due : ℕ × ℕ) → Contains ends due → Contains ends' due) where
  was_there : (r : Row) → 0 < count_of r (under new tag) → count_of r (puts c) ≤ 0 → 0 < count_of r (under old tag)
  was_there r there none = omega (arith, there, none, here.each r, count_of-append r (under new tag) (takes c), count_of-append r (under old tag) (puts c))

  noted_here : (r : Row) → 0 < count_of r (under new tag) → r.end < FOREVER → Contains ends' (r.end, tag)
  noted_here r there before = elim (cases_lt 0 (count_of r (puts c))) [
    | inl put ↦ noted r put before
    | inr none ↦ stay (r.end, tag) (are.each tag r (was_there r there none) before)
  ]

  noted_at : (q : ℕ) (r : Row) → (q ≡ tag) ⊎ (q ≢ tag) → 0 < count_of r (under new q) → r.end < FOREVER → Contains ends' (r.end, q)
  noted_at q r (inl same) there before = subst (λ (k : ℕ). 0 < count_of r (under new k) → Contains ends' (r.end, k)) (sym same) (λ now. noted_here r now before) there
  noted_at q r (inr other) there before = stay (r.end, q) (are.each q r (subst (λ (rows : List Row). 0 < count_of r rows) (others q other) there) before)

  -- the ends go through a change as the rows do
  pub ends_noted : AreEnds new ends'
  ends_noted = record { each = λ q r there before. noted_at q r (cases_eq q tag) there before; in_use = all_in_use tag old new apart used are.in_use }

module _ (time : ℕ) (due : ℕ × ℕ) (old new : FiledRows) (ends ends' : List (ℕ × ℕ)) (are : AreEnds old ends) (upto : due.0 ≤ time) (out : IsPermutation ends (due ∷ ends'))
    (here : SameRows (under new due.1) (filter (ends_after time) (under old due.1)))
    (others : (q : ℕ) → q ≢ due.1 → under new q ≡ under old q)
    (apart : (q : ℕ) → q ≢ due.1 → filed_at new q ≡ filed_at old q) (used : IsInUse new due.1) where
  left_here : (r : Row) → 0 < count_of r (under new due.1) → r.end < FOREVER → Contains ends' (r.end, due.1)
  left_here r there before =
      let parts = filtered_there (ends_after time) r (under old due.1) (omega (arith, there, here.each r)) in
      let late = ltb-true time r.end parts.0 in
      left_there due (r.end, due.1) ends ends' out (λ same. let at = ap (λ (d : ℕ × ℕ). d.0) same in omega (arith, at, late, upto)) (are.each due.1 r parts.1 before)

  left_at : (q : ℕ) (r : Row) → (q ≡ due.1) ⊎ (q ≢ due.1) → 0 < count_of r (under new q) → r.end < FOREVER → Contains ends' (r.end, q)
  left_at q r (inl same) there before = subst (λ (k : ℕ). 0 < count_of r (under new k) → Contains ends' (r.end, k)) (sym same) (λ now. left_here r now before) there
  left_at q r (inr other) there before =
      left_there due (r.end, q) ends ends' out (λ same. other (sym (ap (λ (d : ℕ × ℕ). d.1) same))) (are.each q r (subst (λ (rows : List Row). 0 < count_of r rows) (others q other) there) before)

  -- without an end that is due the others are those of the rows without those that ended under its tag
  pub ends_forgotten : AreEnds new ends'
  ends_forgotten = record { each = λ q r there before. left_at q r (cases_eq q due.1) there before; in_use = all_in_use due.1 old new apart used are.in_use }

  module _ (first_rows : FiledRows) where
    among_at : (q : ℕ) → (q ≡ due.1) ⊎ (q ≢ due.1) → SameAmong (ends_after time) (under old q) (under first_rows q) → SameAmong (ends_after time) (under new q) (under first_rows q)
    among_at q (inl same) left =
        let now = subst (λ (k : ℕ). SameRows (under new k) (filter (ends_after time) (under old k))) (sym same) here in
        among_along (ends_after time) (under new q) (under old q) (under first_rows q) (among_filter (ends_after time) (under new q) (under old q) now) left
    among_at q (inr other) left = subst (λ (rows : List Row). SameAmong (ends_after time) rows (under first_rows q)) (sym (others q other)) left

    -- the rows that end after a time are left, under each tag
    pub rows_left : (q : ℕ) → SameAmong (ends_after time) (under old q) (under first_rows q) → SameAmong (ends_after time) (under new q) (under first_rows q)
    rows_left q left = among_at q (cases_eq q due.1) left

-- where no end is due at a time, no row ended by it
pub none_ended : (filed : FiledRows) (ends : List (ℕ × ℕ)) (time : ℕ) → time < FOREVER → AreEnds filed ends → All (λ due. time < due.0) ends → (q : ℕ) (r : Row) → 0 < count_of r (under filed q) → not (ends_after time r) ≡ false
none_ended filed ends time finite are none q r there = ap not (lt-ltb time r.end (elim (cases_lt r.end FOREVER) [
  | inl before ↦ All-contains (λ (due : ℕ × ℕ). time < due.0) ends (r.end, q) none (are.each q r there before)
  | inr never ↦ omega (arith, finite, never)
]))

-- where the rows that never end are left at most, there is no end
pub none_ends : (filed filed' : FiledRows) (ends : List (ℕ × ℕ)) (time : ℕ) → FOREVER ≤ time → ((q : ℕ) → SameRows (under filed' q) (filter (ends_after time) (under filed q))) → ((q : ℕ) → IsInUse filed' q) → AreEnds filed' ends
none_ends filed filed' ends time late kept used = record {
  each = λ q r there before.
      let parts = filtered_there (ends_after time) r (under filed q) (omega (arith, there, (kept q).each r)) in
      absurd (let after = ltb-true time r.end parts.0 in omega (arith, after, before, late));
  in_use = used;
}

module _ {F : Type 0} (T : F → ℕ → List Row → Bool → List Row → F → Type 0) (I : F → Type 0) (time : ℕ)
    (step : (g : F) (k : ℕ) (v : List Row) (b : Bool) (w : List Row) (g' : F) → I g → T g k v b w g' → (SameRows w (filter (ends_after time) v) × (b ≡ false → w ≡ [])) × I g') where
  abbrev Left : FiledRows → FiledRows → Type 0
  Left kept filed = (q : ℕ) → SameRows (under kept q) (filter (ends_after time) (under filed q))

  first_left : (b : Bool) (e : ℕ × List Row) (es rest : FiledRows) (w : List Row) → under es e.0 ≡ [] → SameRows w (filter (ends_after time) e.1) → (b ≡ false → w ≡ []) → Left rest es
      → SameRows (under (cond b ((e.0, w) ∷ rest) rest) e.0) (filter (ends_after time) (under (e ∷ es) e.0))
  first_left true e es rest w alone same none left = record {
    each = λ r. omega (arith, same.each r, ap (count_of r) (under_first (e.0, w) rest), ap (λ (rows : List Row). count_of r (filter (ends_after time) rows)) (under_first e es));
  }
  first_left false e es rest w alone same none left = record {
    each = λ r. omega (
      arith,
      same.each r,
      ap (count_of r) (none refl),
      (left e.0).each r,
      ap (λ (rows : List Row). count_of r (filter (ends_after time) rows)) alone,
      ap (λ (rows : List Row). count_of r (filter (ends_after time) rows)) (under_first e es),
    );
  }

  later_left : (b : Bool) (e : ℕ × List Row) (es rest : FiledRows) (w : List Row) (q : ℕ) → q ≢ e.0 → Left rest es
      → SameRows (under (cond b ((e.0, w) ∷ rest) rest) q) (filter (ends_after time) (under (e ∷ es) q))
  later_left true e es rest w q other left = record {
    each = λ r. omega (arith, (left q).each r, ap (count_of r) (under_later (e.0, w) rest q other), ap (λ (rows : List Row). count_of r (filter (ends_after time) rows)) (under_later e es q other));
  }
  later_left false e es rest w q other left = record {
    each = λ r. omega (arith, (left q).each r, ap (λ (rows : List Row). count_of r (filter (ends_after time) rows)) (under_later e es q other));
  }

  left_under : (b : Bool) (e : ℕ × List Row) (es rest : FiledRows) (w : List Row) → under es e.0 ≡ [] → SameRows w (filter (ends_after time) e.1) → (b ≡ false → w ≡ []) → Left rest es
      → (q : ℕ) → (q ≡ e.0) ⊎ (q ≢ e.0) → SameRows (under (cond b ((e.0, w) ∷ rest) rest) q) (filter (ends_after time) (under (e ∷ es) q))
  left_under b e es rest w alone same none left q (inl is) =
      subst (λ (k : ℕ). SameRows (under (cond b ((e.0, w) ∷ rest) rest) k) (filter (ends_after time) (under (e ∷ es) k))) (sym is) (first_left b e es rest w alone same none left)
  left_under b e es rest w alone same none left q (inr other) = later_left b e es rest w q other left

  -- where each tag's rows are shortened, and a tag goes with its last row, the rows that end after the time are left
  pub all_left : (f : F) (es kept : FiledRows) → I f → IsStrictlySortedBy nat_cmp (keys_of es) → RetainsPairs T f es kept → Left kept es
  unfolding IsStrictlySortedBy
  all_left f [] kept is sorted run = λ q. record { each = λ r. ap (λ (rows : FiledRows). count_of r (under rows q)) run }
  all_left f (e ∷ es) kept is sorted (b, w, g, rest, called, run, made) =
      let said = step f e.0 e.1 b w g is called in
      let left = all_left g es rest said.1 sorted.1 run in
      subst (λ (rows : FiledRows). Left rows (e ∷ es)) (sym made) (λ q. left_under b e es rest w (beyond e.0 es sorted.0) said.0.0 said.0.1 left q (cases_eq q e.0))
