-- Bags of lives, in order of their ends and of their begins.
use Rattle.std.proofs.Common.{◌≡◌, ℕ, zero, suc, ◌+◌, ◌<◌, ◌≤◌, ◌⊎◌, inl, inr, List, [], ◌∷◌, ◌++◌, Bool, true, false, cond, refl, ap, sym, ◌∙◌, subst, arith, take, length, replicate}
use Rattle.std.specs.Prelude.{nat_lt, nat_le, nat_eq, ◌&&◌, ◌||◌, sum_by, get_or, IsTrue}
use Rattle.std.specs.List.{filter, list_any, AllByRecursion}
use Rattle.std.specs.List.Sorted.{IsStrictlySortedBy}
use Rattle.std.specs.BTreeMap.{is_at}
use Rattle.std.specs.Ordering.{nat_cmp, ordering_then, is_eq, is_gt}
use Rattle.std.specs.Cmp.{tied_then}
use Rattle.std.specs.declared.cmp.Ordering.{Ordering}
use Rattle.std.specs.declared.cmp.Ordering.TheVariants.{Less, Equal, Greater}
use Rattle.std.proofs.lemmas.Bool.{cases_lt, eq-eqb, eqb-true, ltb-true, lt-ltb, le-leb, leb-true, and_parts}
use Rattle.std.proofs.lemmas.Bool.Decides.{nat_tests}
use Rattle.std.proofs.lemmas.List.Sums.{sum_by-cons, sum_by-append}
use Rattle.std.proofs.lemmas.List.Concat.{flat_map-append}
use Rattle.std.proofs.lemmas.List.{take_more}
use Rattle.cedr_base.specs.declared.row.Row.{Row}
use Rattle.cedr_base.specs.declared.change.Change.{Change}
use Rattle.cedr_base.specs.declared.change.Change.TheVariants.{Cut}
use Rattle.cedr_base.specs.Rows.{same_row, count_of, one_if_same, SameRows}
use Rattle.cedr_base.specs.Changes.{puts, takes, all_puts, all_takes, remnant}
use Rattle.cedr_base.proofs.Bags.{same_row_exact, same_row_itself, count_of-append, count_of-cons, one_if_same_exact}
use Rattle.change_laws.proofs.BagSums.{count_of-itself}
use Rattle.change_laws.proofs.Moves.{remnant_some, remnant_none}
use Rattle.cedr_table.proofs.FilterLemmas.{count-filter}
use Rattle.op_except.specs.declared.lives.Life.{Life}
use Rattle.op_except.specs.Parts.{may_grow, growing_from}
use Rattle.op_except.specs.Lives.{life_row, bares, life_cmp, has_life, AreLives, lasts_to, IsEarliest}

-- a set is updated at one life
abbrev pub IsUpdate : Life → Bool → List Life → List Life → Type 0
IsUpdate life there old new = (q : Life) → list_any (is_at (life_cmp q)) new ≡ cond (is_at (life_cmp life) q) there (list_any (is_at (life_cmp q)) old)

at_is : (n m : ℕ) → is_eq (nat_cmp n m) ≡ nat_eq n m
at_is n m = grind (arith, nat_tests)

-- a set finds a life by its begin and its end
life_at : (b e begin end : ℕ) → is_at (life_cmp (record { begin = b; end = e })) (record { begin = begin; end = end }) ≡ (nat_eq b begin && nat_eq e end)
life_at b e begin end = sym (tied_then (nat_cmp b begin) (nat_cmp e end)) ∙ (λ i. at_is b begin i && at_is e end i)

same_life_at : (b e begin end : ℕ) (same : Bool) → same_row (life_row begin end) (life_row b e) ≡ same → same ≡ (nat_eq b begin && nat_eq e end)
same_life_at b e begin end true is =
    let rows = same_row_exact (life_row begin end) (life_row b e) is in
    sym (λ i. eq-eqb b begin (sym (ap (λ (r : Row). r.begin) rows)) i && eq-eqb e end (sym (ap (λ (r : Row). r.end) rows)) i)
same_life_at b e begin end false is = other (nat_eq b begin) (nat_eq e end) refl refl
  where
    other : (x y : Bool) → nat_eq b begin ≡ x → nat_eq e end ≡ y → false ≡ (x && y)
    other true true k l =
        let at : life_row begin end ≡ life_row b e = λ i. life_row (sym (eqb-true b begin k) i) (sym (eqb-true e end l) i) in
        absurd (let yes = ap (λ (r : Row). same_row (life_row begin end) r) (sym at) in let itself = same_row_itself (life_row begin end) in let wrong = sym is ∙ (yes ∙ itself) in cc)
    other true false k l = refl
    other false y k l = refl

-- two lives are the same row where their begins and ends are
same_life : (b e begin end : ℕ) → same_row (life_row begin end) (life_row b e) ≡ (nat_eq b begin && nat_eq e end)
same_life b e begin end = same_life_at b e begin end (same_row (life_row begin end) (life_row b e)) refl

module _ (lives lives' : List Life) (rows rows' : List Row) (b e : ℕ) (were : AreLives lives rows) where
  added_at : (begin end n m : ℕ) (same : Bool) → n ≡ cond same 1 0 + m → cond same true (nat_lt 0 m) ≡ nat_lt 0 n
  added_at begin end n m true is = sym (lt-ltb 0 n (omega (arith, is)))
  added_at begin end n m false is = let same : m ≡ n = omega (arith, is) in ap (nat_lt 0) same

  -- where a life is added to both
  pub lives_added : IsUpdate (record { begin = b; end = e }) true lives lives' → SameRows rows' (life_row b e ∷ rows) → AreLives lives' rows'
  lives_added update same = record {
    bare = λ r there. elim (cases_lt 0 (count_of r rows)) [
      | inl was ↦ were.bare r was
      | inr none ↦ ap (λ (q : Row). q.payload) (one_if_same_exact r (life_row b e) (omega (arith, same.each r, count_of-cons r (life_row b e) rows)))
    ];
    each = λ begin end.
        update (record { begin = begin; end = end })
        ∙ ((λ i. cond (life_at b e begin end i) true (were.each begin end i))
        ∙ added_at begin end (count_of (life_row begin end) rows') (count_of (life_row begin end) rows) (nat_eq b begin && nat_eq e end)
        (omega (arith, same.each (life_row begin end), count_of-cons (life_row begin end) (life_row b e) rows, ap {B = ℕ} (λ c. cond c 1 0) (same_life b e begin end))));
  }

  taken_bare : SameRows (life_row b e ∷ rows') rows → (r : Row) → 0 < count_of r rows' → r.payload ≡ []
  taken_bare same r there = were.bare r (omega (arith, same.each r, count_of-cons r (life_row b e) rows'))

  stays_at : (n m : ℕ) (same : Bool) → cond {A = ℕ} same 1 0 + m ≡ n → (same ≡ true → 0 < m) → nat_lt 0 n ≡ nat_lt 0 m
  stays_at n m true is some = lt-ltb 0 n (omega (arith, is)) ∙ sym (lt-ltb 0 m (some refl))
  stays_at n m false is some = let same : n ≡ m = omega (arith, is) in ap (nat_lt 0) same

  gone_at : (n m : ℕ) (same : Bool) → cond {A = ℕ} same 1 0 + m ≡ n → (same ≡ true → m ≡ 0) → cond same false (nat_lt 0 n) ≡ nat_lt 0 m
  gone_at n m true is none = sym (ap (nat_lt 0) (none refl))
  gone_at n m false is none = let same : n ≡ m = omega (arith, is) in ap (nat_lt 0) same

  same_counts : (begin end : ℕ) → (nat_eq b begin && nat_eq e end) ≡ true → count_of (life_row begin end) rows' ≡ count_of (life_row b e) rows'
  same_counts begin end is =
      let both = and_parts (nat_eq b begin) (nat_eq e end) is in
      λ i. count_of (life_row (sym (eqb-true b begin both.0) i) (sym (eqb-true e end both.1) i)) rows'

  one_less : SameRows (life_row b e ∷ rows') rows → (begin end : ℕ) → cond {A = ℕ} (nat_eq b begin && nat_eq e end) 1 0 + count_of (life_row begin end) rows' ≡ count_of (life_row begin end) rows
  one_less same begin end = omega (arith, same.each (life_row begin end), count_of-cons (life_row begin end) (life_row b e) rows', ap {B = ℕ} (λ c. cond c 1 0) (same_life b e begin end))

  -- where one of several copies is taken
  pub lives_stay : SameRows (life_row b e ∷ rows') rows → 0 < count_of (life_row b e) rows' → AreLives lives rows'
  lives_stay same some = record {
    bare = taken_bare same;
    each = λ begin end. were.each begin end ∙ stays_at (count_of (life_row begin end) rows) (count_of (life_row begin end) rows') (nat_eq b begin && nat_eq e end) (one_less same begin end) (λ is. omega (arith, some, same_counts begin end is));
  }

  -- where the last copy is taken
  pub lives_gone : IsUpdate (record { begin = b; end = e }) false lives lives' → SameRows (life_row b e ∷ rows') rows → count_of (life_row b e) rows' ≡ 0 → AreLives lives' rows'
  lives_gone update same none = record {
    bare = taken_bare same;
    each = λ begin end.
        update (record { begin = begin; end = end })
        ∙ ((λ i. cond (life_at b e begin end i) false (were.each begin end i))
        ∙ gone_at (count_of (life_row begin end) rows) (count_of (life_row begin end) rows') (nat_eq b begin && nat_eq e end) (one_less same begin end) (λ is. same_counts begin end is ∙ none));
  }

copies_at : (n m c : ℕ) (same : Bool) → c + m ≡ n → (same ≡ true → c ≡ n) → (same ≡ false → c ≡ 0) → cond same false (nat_lt 0 n) ≡ nat_lt 0 m
copies_at n m c true is all none = let every = all refl in let left : 0 ≡ m = omega (arith, is) in ap (nat_lt 0) left
copies_at n m c false is all none = let nothing = none refl in let same : n ≡ m = omega (arith, is) in ap (nat_lt 0) same

copies_of : (r : Row) (m : ℕ) → count_of r (replicate m r) ≡ m
copies_of r zero = refl
copies_of r (suc m) = omega (arith, count_of-cons r r (replicate m r), copies_of r m, ap {B = ℕ} (λ c. cond c 1 0) (same_row_itself r))

no_copies : (q r : Row) (m : ℕ) → one_if_same q r ≡ 0 → count_of q (replicate m r) ≡ 0
no_copies q r zero apart = refl
no_copies q r (suc m) apart = omega (arith, count_of-cons q r (replicate m r), no_copies q r m apart, apart)

-- all copies of a life are taken
pub lives_popped : (lives lives' : List Life) (rows rows' : List Row) (gone : Row) (n : ℕ) → AreLives lives rows → 0 < n → n ≡ count_of gone rows → IsUpdate (record { begin = gone.begin; end = gone.end }) false lives lives' → SameRows (replicate n gone ++ rows') rows → AreLives lives' rows'
lives_popped lives lives' rows rows' gone n were some is update same = record {
  bare = λ r there. were.bare r (omega (arith, same.each r, count_of-append r (replicate n gone) rows'));
  each = λ begin end.
      update (record { begin = begin; end = end })
      ∙ ((λ i. cond (life_at gone.begin gone.end begin end i) false (were.each begin end i))
      ∙ copies_at (count_of (life_row begin end) rows) (count_of (life_row begin end) rows') (count_of (life_row begin end) (replicate n gone)) (nat_eq gone.begin begin && nat_eq gone.end end)
      (omega (arith, same.each (life_row begin end), count_of-append (life_row begin end) (replicate n gone) rows'))
      (λ here. let at = gone_is begin end here in all_of begin end at)
      (λ other. none_of begin end other));
}
  where
    there : 0 < count_of gone rows
    there = omega (arith, is)

    bare_gone : gone ≡ life_row gone.begin gone.end
    bare_gone = λ i. record gone { payload = were.bare gone there i }

    gone_is : (begin end : ℕ) → (nat_eq gone.begin begin && nat_eq gone.end end) ≡ true → life_row begin end ≡ gone
    gone_is begin end here =
        let both = and_parts (nat_eq gone.begin begin) (nat_eq gone.end end) here in
        (λ i. life_row (sym (eqb-true gone.begin begin both.0) i) (sym (eqb-true gone.end end both.1) i)) ∙ sym bare_gone

    all_of : (begin end : ℕ) → life_row begin end ≡ gone → count_of (life_row begin end) (replicate n gone) ≡ count_of (life_row begin end) rows
    all_of begin end at = ap (λ (r : Row). count_of r (replicate n gone)) at ∙ (copies_of gone n ∙ (is ∙ ap (λ (r : Row). count_of r rows) (sym at)))

    none_of : (begin end : ℕ) → (nat_eq gone.begin begin && nat_eq gone.end end) ≡ false → count_of (life_row begin end) (replicate n gone) ≡ 0
    none_of begin end other = no_copies (life_row begin end) gone n (ap (one_if_same (life_row begin end)) bare_gone ∙ ap {B = ℕ} (λ c. cond c 1 0) (same_life gone.begin gone.end begin end ∙ other))

-- ---- the first open one
-- a set finds a life where its begin and its end are these
record SameLife (begin end : ℕ) (k : Life) : Type 0 where
  begins : begin ≡ k.begin
  ends : end ≡ k.end

same_at : (begin end : ℕ) (k : Life) → is_at (life_cmp (record { begin = begin; end = end })) k ≡ true → SameLife begin end k
same_at begin end k is =
    let both = and_parts (nat_eq begin k.begin) (nat_eq end k.end) (sym (life_at begin end k.begin k.end) ∙ is) in
    record { begins = eqb-true begin k.begin both.0; ends = eqb-true end k.end both.1 }

begins_at : (life k : Life) (o : Ordering) → o ≡ nat_cmp life.begin k.begin → ordering_then o (nat_cmp life.end k.end) ≡ Less → life.begin ≤ k.begin
begins_at life k Less is less = grind (arith, nat_tests, is)
begins_at life k Equal is less = grind (arith, nat_tests, is)
begins_at life k Greater is less = absurd (cc)

above_at : (life k : Life) (ks : List Life) (begin end : ℕ) (b : Bool) → is_at (life_cmp (record { begin = begin; end = end })) k ≡ b → life.begin ≤ k.begin → (b || has_life ks begin end) ≡ true → (has_life ks begin end ≡ true → life.begin ≤ begin) → life.begin ≤ begin
above_at life k ks begin end true is first h rest = let same = (same_at begin end k is).begins in omega arith
above_at life k ks begin end false is first h rest = rest h

all_above : (life : Life) (ks : List Life) (begin end : ℕ) → AllByRecursion (λ k. life_cmp life k ≡ Less) ks → has_life ks begin end ≡ true → life.begin ≤ begin
all_above life [] begin end all h = absurd (cc)
all_above life (k ∷ ks) begin end all h =
    above_at life k ks begin end (is_at (life_cmp (record { begin = begin; end = end })) k) refl (begins_at life k (nat_cmp life.begin k.begin) refl all.0) h (λ rest. all_above life ks begin end all.1 rest)

-- the first of lives in order has the least begin
pub head_least : (life : Life) (lives : List Life) (begin end : ℕ) → IsStrictlySortedBy life_cmp (life ∷ lives) → has_life (life ∷ lives) begin end ≡ true → life.begin ≤ begin
unfolding IsStrictlySortedBy
head_least life lives begin end sorted there =
    above_at life life lives begin end (is_at (life_cmp (record { begin = begin; end = end })) life) refl (omega arith) there (λ rest. all_above life lives begin end sorted.0 rest)

pub tail_sorted : (life : Life) (lives : List Life) → IsStrictlySortedBy life_cmp (life ∷ lives) → IsStrictlySortedBy life_cmp lives
unfolding IsStrictlySortedBy
tail_sorted life lives sorted = sorted.1

-- a life in a list is the first one or among the others
pub first_or : (life : Life) (lives : List Life) (begin end : ℕ) → has_life (life ∷ lives) begin end ≡ true → ((begin ≡ life.begin) × (end ≡ life.end)) ⊎ (has_life lives begin end ≡ true)
first_or life lives begin end there = at (is_at (life_cmp (record { begin = begin; end = end })) life) refl there
  where
    at : (b : Bool) → is_at (life_cmp (record { begin = begin; end = end })) life ≡ b → (b || has_life lives begin end) ≡ true → ((begin ≡ life.begin) × (end ≡ life.end)) ⊎ (has_life lives begin end ≡ true)
    at true is h =
        let same = same_at begin end life is in inl (same.begins, same.ends)
    at false is h = inr h

pub from_rest : (life : Life) (lives : List Life) (begin end : ℕ) → has_life lives begin end ≡ true → has_life (life ∷ lives) begin end ≡ true
from_rest life lives begin end there = at (is_at (life_cmp (record { begin = begin; end = end })) life)
  where
    at : (b : Bool) → (b || has_life lives begin end) ≡ true
    at true = refl
    at false = there

pub head_there : (life : Life) (lives : List Life) → has_life (life ∷ lives) life.begin life.end ≡ true
head_there life lives = ap {B = Bool} (λ b. b || has_life lives life.begin life.end) (life_at life.begin life.end life.begin life.end ∙ (λ i. eq-eqb life.begin life.begin refl i && eq-eqb life.end life.end refl i))

-- a life stands in the set where its row is in the bag
pub row_of_life : (lives : List Life) (rows : List Row) (begin end : ℕ) → AreLives lives rows → has_life lives begin end ≡ true → 0 < count_of (life_row begin end) rows
row_of_life lives rows begin end are there = ltb-true 0 (count_of (life_row begin end) rows) (sym (are.each begin end) ∙ there)

pub life_of_row : (lives : List Life) (rows : List Row) (r : Row) → AreLives lives rows → 0 < count_of r rows → has_life lives r.begin r.end ≡ true
life_of_row lives rows r are there =
    are.each r.begin r.end
    ∙ lt-ltb 0 (count_of (life_row r.begin r.end) rows) (omega (arith, ap (λ (q : Row). count_of q rows) bare, there))
  where
    bare : r ≡ life_row r.begin r.end
    bare = λ i. record r { payload = are.bare r there i }

-- the bound is a time where no open row begins below it, and one begins there unless it is the mark
pub open_is : (mark k : ℕ) (rows : List Row) → k ≤ mark → ((r : Row) → 0 < count_of r rows → may_grow mark r ≡ true → k ≤ r.begin) → (k ≡ mark) ⊎ ((r : Row) × (0 < count_of r rows) × (may_grow mark r ≡ true) × (r.begin ≡ k)) → k ≡ growing_from mark rows
open_is mark k rows below first found = omega (arith, low rows first, high found rows)
  where
    low_at : (r : Row) (b : Bool) → may_grow mark r ≡ b → (may_grow mark r ≡ true → k ≤ r.begin) → k ≤ cond b r.begin mark
    low_at r true is h = h is
    low_at r false is h = below

    low : (rows : List Row) → ((r : Row) → 0 < count_of r rows → may_grow mark r ≡ true → k ≤ r.begin) → k ≤ growing_from mark rows
    low [] h = below
    low (r ∷ rows) h =
        let one = low_at r (may_grow mark r) refl (h r (count_of-itself r rows)) in
        let rest = low rows (λ q there. h q (omega (arith, count_of-cons q r rows))) in
        omega arith

    mark_over : (rows : List Row) → growing_from mark rows ≤ mark
    mark_over [] = omega arith
    mark_over (r ∷ rows) = let rest = mark_over rows in omega arith

    high_there : (r : Row) (rows : List Row) → 0 < count_of r rows → may_grow mark r ≡ true → r.begin ≡ k → growing_from mark rows ≤ k
    high_there r [] there opened is = absurd (omega arith)
    high_there r (q ∷ rows) there opened is = elim (cases_lt 0 (count_of r rows)) [
      | inl more ↦ (let rest = high_there r rows more opened is in omega arith)
      | inr none ↦
          let same : q ≡ r = sym (one_if_same_exact r q (omega (arith, count_of-cons r q rows))) in
          let at : cond (may_grow mark q) q.begin mark ≡ k = ap (λ (x : Row). cond (may_grow mark x) x.begin mark) same ∙ (ap {B = ℕ} (λ b. cond b r.begin mark) opened ∙ is) in
          omega (arith, at)
    ]

    high : (k ≡ mark) ⊎ ((r : Row) × (0 < count_of r rows) × (may_grow mark r ≡ true) × (r.begin ≡ k)) → (rows' : List Row) → growing_from mark rows ≤ k
    high (inl at) rows' = let over = mark_over rows in omega arith
    high (inr h) rows' = high_there h.0 rows h.1 h.2 h.3

-- ---- a change of a row
pub some_or : (n : ℕ) → (n ≡ 0 → ⊥) → 0 < n
some_or n other = elim (cases_lt 0 n) [ inl some ↦ some | inr none ↦ absurd (other (omega arith)) ]

-- the life of a cut row is there
pub cut_there : (c : Change) (x : Row) (e : ℕ) (rows : List Row) → c ≡ Cut x e → ((r : Row) → 0 < count_of r (bares (takes c)) → 0 < count_of r rows) → 0 < count_of (life_row x.begin x.end) rows
cut_there c x e rows is there = there (life_row x.begin x.end) (subst (λ (d : Change). 0 < count_of (life_row x.begin x.end) (bares (takes d))) (sym is) (count_of-itself (life_row x.begin x.end) []))

module _ (c : Change) (x : Row) (e : ℕ) (old mid : List Row) (is : c ≡ Cut x e) (took : SameRows (life_row x.begin x.end ∷ mid) old) where
  noted_by : (new : List Row) → ((r : Row) → count_of r new ≡ count_of r mid + count_of r (bares (remnant x e))) → SameRows (new ++ bares (takes c)) (old ++ bares (puts c))
  noted_by new came =
      subst (λ (d : Change). SameRows (new ++ bares (takes d)) (old ++ bares (puts d))) (sym is)
      (record {
        each = λ r. omega (
          arith,
          count_of-append r new (life_row x.begin x.end ∷ []),
          count_of-append r old (bares (remnant x e)),
          took.each r,
          count_of-cons r (life_row x.begin x.end) mid,
          count_of-cons r (life_row x.begin x.end) [],
          came r,
        );
      })

  -- a life that a cut makes shorter
  pub noted_cut : (new : List Row) → x.begin < e → SameRows new (life_row x.begin e ∷ mid) → SameRows (new ++ bares (takes c)) (old ++ bares (puts c))
  noted_cut new lives came = noted_by new (λ r. omega (arith, came.each r, count_of-cons r (life_row x.begin e) mid, ap (λ (rows : List Row). count_of r (bares rows)) (remnant_some x e lives), count_of-cons r (life_row x.begin e) []))

  -- one that a cut ends
  pub noted_gone : e ≤ x.begin → SameRows (mid ++ bares (takes c)) (old ++ bares (puts c))
  noted_gone gone = noted_by mid (λ r. omega (arith, ap (λ (rows : List Row). count_of r (bares rows)) (remnant_none x e gone)))

-- ---- several changes
bares-append : (xs ys : List Row) → bares (xs ++ ys) ≡ bares xs ++ bares ys
bares-append xs ys = flat_map-append (λ (r : Row). life_row r.begin r.end ∷ []) xs ys

taken_sum : (r : Row) (cs : List Change) → count_of r (bares (all_takes cs)) ≡ sum_by (λ c. count_of r (bares (takes c))) cs
taken_sum r [] = refl
taken_sum r (c ∷ cs) = ap (count_of r) (bares-append (takes c) (all_takes cs)) ∙ omega (arith, count_of-append r (bares (takes c)) (bares (all_takes cs)), taken_sum r cs, sum_by-cons (λ d. count_of r (bares (takes d))) c cs)

put_sum : (r : Row) (cs : List Change) → count_of r (bares (all_puts cs)) ≡ sum_by (λ c. count_of r (bares (puts c))) cs
put_sum r [] = refl
put_sum r (c ∷ cs) = ap (count_of r) (bares-append (puts c) (all_puts cs)) ∙ omega (arith, count_of-append r (bares (puts c)) (bares (all_puts cs)), put_sum r cs, sum_by-cons (λ d. count_of r (bares (puts d))) c cs)

first_most : (w : Change → ℕ) (cs : List Change) (k : ℕ) → sum_by w (take k cs) ≤ sum_by w cs
first_most w [] zero = omega arith
first_most w [] (suc k) = omega arith
first_most w (c ∷ cs) zero = omega arith
first_most w (c ∷ cs) (suc k) = let rest = first_most w cs k in omega (arith, sum_by-cons w c (take k cs), sum_by-cons w c cs)

one_more : (w : Change → ℕ) (cs : List Change) (i : ℕ) (d : Change) → i < length cs → sum_by w (take (i + 1) cs) ≡ sum_by w (take i cs) + w (get_or cs i d)
one_more w cs i d within = ap (sum_by w) (take_more cs i d within) ∙ omega (arith, sum_by-append w (take i cs) (get_or cs i d ∷ []), sum_by-cons w (get_or cs i d) [])

module _ (old now after : List Row) (cs : List Change) (i : ℕ) (d : Change) (within : i < length cs) (there : (r : Row) → count_of r (bares (all_takes cs)) ≤ count_of r old)
    (was : SameRows (now ++ bares (all_takes (take i cs))) (old ++ bares (all_puts (take i cs)))) where
  -- what the next change takes is there
  pub next_there : (r : Row) → 0 < count_of r (bares (takes (get_or cs i d))) → 0 < count_of r now
  next_there r some =
      let all = there r in
      let most = first_most (λ c. count_of r (bares (takes c))) cs (i + 1) in
      omega (
        arith,
        all,
        taken_sum r cs,
        most,
        one_more (λ c. count_of r (bares (takes c))) cs i d within,
        taken_sum r (take i cs),
        was.each r,
        count_of-append r now (bares (all_takes (take i cs))),
        count_of-append r old (bares (all_puts (take i cs))),
      )

  pub noted_next : SameRows (after ++ bares (takes (get_or cs i d))) (now ++ bares (puts (get_or cs i d))) → SameRows (after ++ bares (all_takes (take (i + 1) cs))) (old ++ bares (all_puts (take (i + 1) cs)))
  noted_next step = record {
    each = λ r. omega (
      arith,
      step.each r,
      was.each r,
      count_of-append r after (bares (takes (get_or cs i d))),
      count_of-append r now (bares (puts (get_or cs i d))),
      count_of-append r now (bares (all_takes (take i cs))),
      count_of-append r old (bares (all_puts (take i cs))),
      count_of-append r after (bares (all_takes (take (i + 1) cs))),
      count_of-append r old (bares (all_puts (take (i + 1) cs))),
      taken_sum r (take i cs),
      put_sum r (take i cs),
      taken_sum r (take (i + 1) cs),
      put_sum r (take (i + 1) cs),
      one_more (λ c. count_of r (bares (takes c))) cs i d within,
      one_more (λ c. count_of r (bares (puts c))) cs i d within,
    );
  }

pub take_all : (cs : List Change) (i : ℕ) → length cs ≤ i → take i cs ≡ cs
take_all [] zero more = refl
take_all [] (suc i) more = refl
take_all (c ∷ cs) zero more = absurd (omega arith)
take_all (c ∷ cs) (suc i) more = ap (λ (ds : List Change). c ∷ ds) (take_all cs i (omega arith))

-- ---- the least begin, and the first open one
pub first_from : (life : Life) (lives : List Life) (begin end mark : ℕ) → IsStrictlySortedBy life_cmp (life ∷ lives) → mark ≤ life.begin → has_life (life ∷ lives) begin end ≡ true → mark ≤ begin
first_from life lives begin end mark sorted late there = let first = head_least life lives begin end sorted there in omega arith

pub none_in : (lives : List Life) (begin end mark : ℕ) → lives ≡ [] → has_life lives begin end ≡ true → mark ≤ begin
none_in [] begin end mark is there = absurd (cc)
none_in (k ∷ ks) begin end mark is there = absurd (let size = ap (λ (ls : List Life). length ls) is in omega (arith, size))

pub rest_passed : (life : Life) (lives : List Life) (mark begin end : ℕ) → life.end < mark → (has_life (life ∷ lives) begin end ≡ true) ⊎ (end < mark) → (has_life lives begin end ≡ true) ⊎ (end < mark)
rest_passed life lives mark begin end ended (inr over) = inr over
rest_passed life lives mark begin end ended (inl there) = elim (first_or life lives begin end there) [
  | inl same ↦ inr (let at = same.1 in omega arith)
  | inr rest ↦ inl rest
]

open_parts : (mark : ℕ) (r : Row) → may_grow mark r ≡ true → (r.begin < mark) × (mark ≤ r.end)
open_parts mark r is = let both = and_parts (nat_lt r.begin mark) (nat_le mark r.end) is in (ltb-true r.begin mark both.0, leb-true mark r.end both.1)

-- where no open life is left, the bound is the mark
pub open_none : (keys : List Life) (rows : List Row) (left : List Life) (mark : ℕ) → AreLives keys rows → ((begin end : ℕ) → has_life keys begin end ≡ true → (has_life left begin end ≡ true) ⊎ (end < mark)) → ((begin end : ℕ) → has_life left begin end ≡ true → mark ≤ begin) → mark ≡ growing_from mark rows
open_none keys rows left mark are rest late =
    open_is mark mark rows (omega arith)
    (λ r there opened.
    let both = open_parts mark r opened in
    let early = both.0 in
    let lasts = both.1 in
    elim (rest r.begin r.end (life_of_row keys rows r are there)) [
      | inl in_left ↦ late r.begin r.end in_left
      | inr over ↦ absurd (omega arith)
    ])
    (inl refl)

-- the first one that is open is the bound
pub open_found : (keys : List Life) (rows : List Row) (life : Life) (left : List Life) (mark : ℕ) → AreLives keys rows → IsStrictlySortedBy life_cmp (life ∷ left) → ((begin end : ℕ) → has_life (life ∷ left) begin end ≡ true → has_life keys begin end ≡ true)
    → ((begin end : ℕ) → has_life keys begin end ≡ true → (has_life (life ∷ left) begin end ≡ true) ⊎ (end < mark)) → life.begin < mark → mark ≤ life.end → life.begin ≡ growing_from mark rows
open_found keys rows life left mark are sorted part rest early lasts =
    open_is mark life.begin rows (omega arith)
    (λ r there opened.
    let both = open_parts mark r opened in
    let reaching = both.1 in
    elim (rest r.begin r.end (life_of_row keys rows r are there)) [
      | inl in_left ↦ head_least life left r.begin r.end sorted in_left
      | inr over ↦ absurd (omega arith)
    ])
    (inr (
      life_row life.begin life.end,
      row_of_life keys rows life.begin life.end are (part life.begin life.end (head_there life left)),
      (λ i. lt-ltb life.begin mark early i && le-leb mark life.end lasts i),
      refl,
    ))

gt_at : (life : Life) (begin end : ℕ) (o : Ordering) → o ≡ nat_cmp life.begin begin → begin < life.begin → is_gt (ordering_then o (nat_cmp life.end end)) ≡ true
gt_at life begin end Less is before = grind (arith, nat_tests, is, before)
gt_at life begin end Equal is before = grind (arith, nat_tests, is, before)
gt_at life begin end Greater is before = refl

-- what stands after no other one has the least begin
least_begin : (life : Life) (keys : List Life) → ((q : Life) → IsTrue (list_any (is_at (life_cmp q)) keys) → is_gt (life_cmp life q) ≡ false) → (begin end : ℕ) → has_life keys begin end ≡ true → life.begin ≤ begin
least_begin life keys least begin end there = elim (cases_lt begin life.begin) [
  | inr behind ↦ behind
  | inl before ↦ absurd (let greater = gt_at life begin end (nat_cmp life.begin begin) refl before in let not_greater = least (record { begin = begin; end = end }) there in let wrong = sym greater ∙ not_greater in cc)
]

pub earliest_found : (keys : List Life) (rows : List Row) (life : Life) (mark : ℕ) → AreLives keys rows → IsTrue (list_any (is_at (life_cmp life)) keys) → ((q : Life) → IsTrue (list_any (is_at (life_cmp q)) keys) → is_gt (life_cmp life q) ≡ false) → life.begin < mark → IsEarliest rows mark life.begin
earliest_found keys rows life mark are there least before = record {
  below = omega arith;
  first = λ r has. least_begin life keys least r.begin r.end (life_of_row keys rows r are has);
  found = inr (life_row life.begin life.end, row_of_life keys rows life.begin life.end are there, refl);
}

pub earliest_later : (keys : List Life) (rows : List Row) (life : Life) (mark : ℕ) → AreLives keys rows → ((q : Life) → IsTrue (list_any (is_at (life_cmp q)) keys) → is_gt (life_cmp life q) ≡ false) → mark ≤ life.begin → IsEarliest rows mark mark
earliest_later keys rows life mark are least late = record {
  below = omega arith;
  first = λ r has. let first = least_begin life keys least r.begin r.end (life_of_row keys rows r are has) in omega arith;
  found = inl refl;
}

pub earliest_none : (keys : List Life) (rows : List Row) (mark : ℕ) → AreLives keys rows → (0 < length keys → ⊥) → IsEarliest rows mark mark
earliest_none keys rows mark are none = record {
  below = omega arith;
  first = λ r has. none_in keys r.begin r.end mark (empty keys none) (life_of_row keys rows r are has);
  found = inl refl;
}
  where
    empty : (ks : List Life) → (0 < length ks → ⊥) → ks ≡ []
    empty [] h = refl
    empty (k ∷ ks) h = absurd (h (omega arith))

-- what doesn't end by a time doesn't end before the next one
reach_next : (time end : ℕ) → nat_le (time + 1) end ≡ nat_lt time end
reach_next time end = grind (arith, nat_tests)

pub reach_filter : (time : ℕ) (rows others : List Row) → SameRows rows (filter (λ r. nat_lt time r.end) others) → SameRows rows (filter (lasts_to (time + 1)) others)
reach_filter time rows others same = record {
  each = λ r. same.each r ∙ (count-filter r (λ (q : Row). nat_lt time q.end) others ∙ (ap (λ b. cond b (count_of r others) 0) (sym (reach_next time r.end)) ∙ sym (count-filter r (lasts_to (time + 1)) others)));
}
