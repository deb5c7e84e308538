-- Rows with tags, of which the one that begins first is found.
use Rattle.std.proofs.Common.{◌≡◌, ℕ, ◌*◌, ◌<◌, ◌≤◌, inl, inr, List, [], ◌∷◌, ◌++◌, Bool, true, false, cond, not, refl, ap, sym, ◌∙◌, subst, arith, map, slice_index_or, replicate}
use Rattle.std.specs.Prelude.{nat_eq, OnOk, OnErr}
use Rattle.std.specs.declared.result.Result.{Result}
use Rattle.std.specs.declared.result.Result.TheVariants.{Ok, Err}
use Rattle.std.specs.List.{AllByRecursion, Contains}
use Rattle.std.specs.List.Sorted.{IsPermutation}
use Rattle.std.specs.BinaryHeap.{IsUpperBound}
use Rattle.std.specs.Ordering.{nat_cmp, ordering_then, is_lt}
use Rattle.std.specs.declared.cmp.Ordering.{Ordering}
use Rattle.std.specs.declared.cmp.Ordering.TheVariants.{Less, Equal, Greater}
use Rattle.std.specs.declared.cmp.Reverse.{Reverse}
use Rattle.std.proofs.lemmas.Bool.{cases_lt, lt-ltb}
use Rattle.std.proofs.lemmas.List.Elements.{Contains-append_left, Contains-append_right, Contains-append_cases, Contains-push, Contains-push_cases}
use Rattle.std.proofs.lemmas.List.Sorted.{Contains-permutation}
use Rattle.std.proofs.lemmas.List.Folds.{sum_by-replicate}
use Rattle.cedr_base.specs.declared.field.Field.{Field}
use Rattle.cedr_base.specs.declared.row.Row.{Row}
use Rattle.cedr_base.specs.declared.change.Change.{Change}
use Rattle.cedr_base.specs.declared.change.Change.TheVariants.{Add, Cut}
use Rattle.cedr_base.specs.Changes.{changed_row}
use Rattle.cedr_base.specs.Order.{payload_cmp}
use Rattle.cedr_base.specs.Rows.{count_of, one_if_same, SameRows}
use Rattle.cedr_base.proofs.Bags.{count_of-append, count_of-cons, one_of_itself, one_if_same_exact}
use Rattle.change_laws.specs.Times.{later}
use Rattle.cedr_table.specs.Counted.{SameAmong}
use Rattle.cedr_table.proofs.FilterLemmas.{none_of_these}
use Rattle.pat_state.specs.Due.{start_cmp, start_row, AreDue}
use Rattle.pat_state.specs.Starts.{scope_reaches}
use Rattle.pat_state.specs.Tags.{marked, IsRetagged}

-- what isn't greater than the top begins no earlier
no_earlier : (x y : Reverse (ℕ × ℕ × List Field)) → is_lt (start_cmp x y) ≡ false → x.0.0 ≤ y.0.0
no_earlier x y most = elim (cases_lt y.0.0 x.0.0) [
  | inl earlier ↦
      (let less : nat_cmp y.0.0 x.0.0 ≡ Less = ap {B = Ordering} (λ b. cond b Less (cond (nat_eq y.0.0 x.0.0) Equal Greater)) (lt-ltb y.0.0 x.0.0 earlier) in
      let is = ap (λ (o : Ordering). is_lt (ordering_then (ordering_then o (nat_cmp y.0.1 x.0.1)) (payload_cmp y.0.2 x.0.2))) less in
      absurd cc)
  | inr late ↦ late
]

-- where the scope of the top lasts beyond a time, so does that of each
pub all_last : (scope time : ℕ) (top : Reverse (ℕ × ℕ × List Field)) (items : List (Reverse (ℕ × ℕ × List Field))) → time < later top.0.0 scope → IsUpperBound start_cmp top items
    → AllByRecursion (λ (row : Row). scope_reaches scope time row ≡ true) (map start_row items)
all_last scope time top [] lasts most = tt
all_last scope time top (y ∷ ys) lasts most = (
  let from = no_earlier top y most.0 in lt-ltb time (later y.0.0 scope) (omega (arith, from, lasts)),
  all_last scope time top ys lasts most.1,
)

-- the top is the first row
pub top_first : (top : Reverse (ℕ × ℕ × List Field)) (items : List (Reverse (ℕ × ℕ × List Field))) → top ≡ slice_index_or items 0 top → start_row top ≡ slice_index_or (map start_row items) 0 (start_row top)
top_first top [] is = refl
top_first top (y ∷ ys) is = ap start_row is

-- what came is there
pub came_there : (row : Row) (old new : List Row) → IsPermutation (row ∷ old) new → Contains new row
came_there row old new came = Contains-permutation (row ∷ old) new row came (Contains-append_left (row ∷ []) old row (Contains-push [] row))

-- and what was there stays
pub stays_there : (row other : Row) (old new : List Row) → IsPermutation (row ∷ old) new → Contains old other → Contains new other
stays_there row other old new came there = Contains-permutation (row ∷ old) new other came (Contains-append_right (row ∷ []) old other there)

is_first : (row other : Row) → Contains (row ∷ []) other → row ≡ other
is_first row other has = elim (Contains-push_cases [] row other has) [ inl none ↦ absurd (let less = none.1 in omega arith) | inr same ↦ same ]

-- what is another one than the one that went is left
left_there : (row other : Row) (old new : List Row) → IsPermutation old (row ∷ new) → (row ≡ other → ⊥) → Contains old other → Contains new other
left_there row other old new went apart has = elim (Contains-append_cases (row ∷ []) new other (Contains-permutation old (row ∷ new) other went has)) [
  | inl first ↦ absurd (apart (is_first row other first))
  | inr rest ↦ rest
]

module _ (row : Row) (tags tags' : List Row) (out : SameRows (replicate (count_of row tags) row ++ tags') tags) where
  -- no copy of a row is left that was removed
  none_left : count_of row tags' ≡ 0
  none_left = omega (
    arith,
    out.each row,
    count_of-append row (replicate (count_of row tags) row) tags',
    sum_by-replicate (one_if_same row) (count_of row tags) row,
    ap (λ n. count_of row tags * n) (one_of_itself row),
  )

  -- the others are still among those that are due
  pub due_left : (due due' : List Row) → AreDue tags due → IsPermutation due (row ∷ due') → AreDue tags' due'
  due_left due due' are went = record {
    each = λ r there. left_there row r due due' went
        (λ same. let none = subst (λ (x : Row). count_of x tags' ≡ 0) same none_left in omega (arith, none, there))
        (are.each r (omega (arith, there, out.each r, count_of-append r (replicate (count_of row tags) row) tags')));
  }

  -- those whose scope lasts are left
  pub passed_goes : (stays : Row → Bool) (all : List Row) → stays row ≡ false → SameAmong stays tags all → SameAmong stays tags' all
  passed_goes stays all passed same = record {
    each = λ r h. omega (
      arith,
      same.each r h,
      out.each r,
      count_of-append r (replicate (count_of row tags) row) tags',
      none_of_these (λ x. not (stays x)) row r (count_of row tags) (ap not passed) (ap not h),
    );
  }

-- rows stay due where others come
pub due_stays : (tags due due' : List Row) → AreDue tags due → ((r : Row) → Contains due r → Contains due' r) → AreDue tags due'
due_stays tags due due' are stay = record { each = λ r there. stay r (are.each r there) }

-- rows are due after a change that noted what it adds
pub due_step : (tag : ℕ) (c : Change) (old new due due' : List Row) → AreDue old due → IsRetagged tag c old new → ((a : Row) → c ≡ Add a → Contains due' (marked tag a)) → ((r : Row) → Contains due r → Contains due' r) → AreDue new due'
due_step tag (Add a) old new due due' are step there stay = record {
  each = λ r has. elim (cases_lt 0 (count_of r old)) [
    | inl was ↦ stay r (are.each r was)
    | inr none ↦ subst (Contains due') (sym (one_if_same_exact r (marked tag a) (omega (arith, has, none, step.each r, count_of-cons r (marked tag a) old)))) (there a refl)
  ];
}
due_step tag (Cut a e) old new due due' are step there stay = elim (cases_lt a.begin e) [
  | inl left ↦ subst (λ (rows : List Row). AreDue rows due') (sym (step.1 left)) (due_stays old due due' are stay)
  | inr gone ↦ record { each = λ r has. stay r (are.each r (let out = step.0 gone in omega (arith, has, out.each r, count_of-cons r (marked tag a) new))) }
]

-- the row that a change adds is there, once it came
pub added_there : (tag : ℕ) (c : Change) (a row : Row) (payload : List Field) (old new : List Row) → c ≡ Add a → payload ≡ a.payload → IsPermutation (record { end = tag; begin = a.begin; payload = payload } ∷ old) new → c ≡ Add row → Contains new (marked tag row)
added_there tag c a row payload old new is same came has =
    let one : a ≡ row = ap changed_row (sym is ∙ has) in
    subst (λ (x : Row). Contains new (marked tag x)) one
    (subst (λ (fields : List Field). Contains new (record { end = tag; begin = a.begin; payload = fields })) same (came_there (record { end = tag; begin = a.begin; payload = payload }) old new came))

-- what was there stays, whether a row came or there was no memory for it
pub others_stay : {X Y : Type 0} (r : Result X Y) (row : Row) (old new : List Row) → OnOk r (IsPermutation (row ∷ old) new) → OnErr r (new ≡ old) → (other : Row) → Contains old other → Contains new other
others_stay (Ok x) row old new came same = λ other there. stays_there row other old new came there
others_stay (Err y) row old new came same = λ other there. subst (λ (rows : List Row). Contains rows other) (sym same) there
