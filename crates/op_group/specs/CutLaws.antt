-- The rows between neighbouring times, one by one.
use Rattle.std.proofs.Common.{◌≡◌, ℕ, ◌+◌, ◌<◌, ◌≤◌, inl, inr, List, [], ◌∷◌, ◌++◌, Bool, true, false, cond, refl, ap, sym, ◌∙◌, subst, arith}
use Rattle.std.specs.Prelude.{nat_eq}
use Rattle.std.proofs.lemmas.Bool.{cases_lt, eq-eqb, eqb-true, eqb-false}
use Rattle.cedr_base.specs.declared.field.Field.{Field}
use Rattle.cedr_base.specs.declared.row.Row.{Row}
use Rattle.cedr_base.specs.Rows.{one_if_same, count_of}
use Rattle.cedr_base.proofs.Bags.{count_of-append, one_of_itself, one_if_same_exact}
use Rattle.op_group.specs.Tallies.{Tally}
use Rattle.op_group.specs.Cuts.{totals}
use Rattle.op_group.specs.Measures.{among, AllAbove, Ascends, row_from, one_row, rows_at, Fits}
use Rattle.op_group.specs.TimeLaws.{below_test, above_test, false_not_true}

above_at : (t s u : ℕ) (ts : List ℕ) (b : Bool) → nat_eq t s ≡ b → u < s → (among t ts ≡ true → u < t) → cond b true (among t ts) ≡ true → u < t
above_at t s u ts true is here rest there = let same = eqb-true t s is in omega arith
above_at t s u ts false is here rest there = rest there

-- what is among times above another is above it
pub above_among : (u t : ℕ) (ts : List ℕ) → AllAbove u ts → among t ts ≡ true → u < t
above_among u t [] above there = cc
above_among u t (s ∷ ts) above there = above_at t s u ts (nat_eq t s) refl above.0 (above_among u t ts above.1) there

-- a time isn't among times that are above it, or above a later one
pub not_below : (u t : ℕ) (ts : List ℕ) (b : Bool) → AllAbove u ts → t ≤ u → among t ts ≡ b → b ≡ false
not_below u t ts true above below is = let over = above_among u t ts above is in absurd (omega arith)
not_below u t ts false above below is = refl

-- a time above the first one is among them where it is among the rest
pub among_tail : (t s : ℕ) (ts : List ℕ) → nat_eq t s ≡ false → among t (s ∷ ts) ≡ among t ts
among_tail t s ts h = ap {B = Bool} (λ b. cond b true (among t ts)) h

-- the first of some times is among them
pub among_head : (t s : ℕ) (ts : List ℕ) → nat_eq t s ≡ true → among t (s ∷ ts) ≡ true
among_head t s ts h = ap {B = Bool} (λ b. cond b true (among t ts)) h

-- no time between two neighbours is among those from the second on
pub none_between : (t q : ℕ) (ts : List ℕ) → AllAbove q ts → t < q → among t (q ∷ ts) ≡ false
none_between t q ts above h = among_tail t q ts (below_test t q h) ∙ not_below q t ts (among t ts) above (omega arith) refl

-- times that are above a time are above each earlier one
pub above_lower : (u t : ℕ) (ts : List ℕ) → u ≤ t → AllAbove t ts → AllAbove u ts
above_lower u t [] h above = tt
above_lower u t (s ∷ ts) h above = (let x = above.0 in omega arith, above_lower u t ts h above.1)

module _ (counted : Bool) (key : List Field) (living : ℕ → ℕ) (tally : ℕ → Tally) where
  abbrev IsIn : List ℕ → Row → Type 0
  IsIn ts r = Fits counted key living tally (λ t. among t ts) r

  record IsOne (r : Row) (p q : ℕ) : Type 0 where
    lives : 0 < living p
    is : r ≡ row_from counted key living tally p q

  one_at_most : (r : Row) (p q : ℕ) (b : Bool) → nat_eq (living p) 0 ≡ b → 0 < count_of r (cond b [] (row_from counted key living tally p q ∷ [])) → IsOne r p q
  one_at_most r p q true h there = absurd (omega arith)
  one_at_most r p q false h there =
      let some = eqb-false (living p) 0 h in
      record { lives = omega arith; is = one_if_same_exact r (row_from counted key living tally p q) (omega arith) }

  -- what is in the row between two times is that row
  one_from_there : (r : Row) (p q : ℕ) → 0 < count_of r (one_row counted key living tally p q) → IsOne r p q
  one_from_there r p q there = one_at_most r p q (nat_eq (living p) 0) refl there

  one_there_at : (r : Row) (p q : ℕ) (b : Bool) → nat_eq (living p) 0 ≡ b → 0 < living p → r ≡ row_from counted key living tally p q → count_of r (cond b [] (row_from counted key living tally p q ∷ [])) ≡ 1
  one_there_at r p q true h lives is = let none = eqb-true (living p) 0 h in absurd (omega arith)
  one_there_at r p q false h lives is = omega (arith, one_of_itself r, ap (one_if_same r) is)

  one_there : (r : Row) (p q : ℕ) → 0 < living p → r ≡ row_from counted key living tally p q → count_of r (one_row counted key living tally p q) ≡ 1
  one_there r p q lives is = one_there_at r p q (nat_eq (living p) 0) refl lives is

  -- the row between the first two times
  pub first_fits : (p q : ℕ) (ts : List ℕ) → Ascends (p ∷ q ∷ ts) → 0 < living p → IsIn (p ∷ q ∷ ts) (row_from counted key living tally p q)
  first_fits p q ts up lives =
      let less = up.0.0 in
      record {
        starts = among_head p p (q ∷ ts) (eq-eqb p p refl);
        ends = among_tail q p (q ∷ ts) (above_test q p less) ∙ among_head q q ts (eq-eqb q q refl);
        apart = λ t above below. among_tail t p (q ∷ ts) (above_test t p above) ∙ none_between t q ts up.1.0 below;
        order = less;
        lives = lives;
        payload_is = refl;
      }

  -- a row between times is between more times
  later_fits : (p : ℕ) (ts : List ℕ) (r : Row) → AllAbove p ts → IsIn ts r → IsIn (p ∷ ts) r
  later_fits p ts r above fits =
      let begins = above_among p r.begin ts above fits.starts in
      let order = fits.order in
      record {
        starts = among_tail r.begin p ts (above_test r.begin p begins) ∙ fits.starts;
        ends = among_tail r.end p ts (above_test r.end p (omega arith)) ∙ fits.ends;
        apart = λ t over below. among_tail t p ts (above_test t p (omega arith)) ∙ fits.apart t over below;
        order = order;
        lives = fits.lives;
        payload_is = fits.payload_is;
      }

  -- a row of those between neighbouring times fits
  pub fits_from_there : (ts : List ℕ) (r : Row) → Ascends ts → 0 < count_of r (rows_at counted key living tally ts) → IsIn ts r
  fits_from_there [] r up there = absurd (omega arith)
  fits_from_there (p ∷ []) r up there = absurd (omega arith)
  fits_from_there (p ∷ q ∷ ts) r up there = elim (cases_lt 0 (count_of r (one_row counted key living tally p q))) [
    | inl here ↦
        let one = one_from_there r p q here in
        subst (IsIn (p ∷ q ∷ ts)) (sym one.is) (first_fits p q ts up one.lives)
    | inr not_here ↦
        later_fits p (q ∷ ts) r up.0 (fits_from_there (q ∷ ts) r up.1 (omega (arith, there, not_here, count_of-append r (one_row counted key living tally p q) (rows_at counted key living tally (q ∷ ts)))))
  ]

  only_time : (t p : ℕ) (b : Bool) → nat_eq t p ≡ b → cond b true false ≡ true → t ≡ p
  only_time t p true h k = eqb-true t p h
  only_time t p false h k = cc

  -- a row that begins at the first time ends at the second
  ends_next : (p q : ℕ) (ts : List ℕ) (r : Row) → Ascends (p ∷ q ∷ ts) → r.begin ≡ p → IsIn (p ∷ q ∷ ts) r → r.end ≡ q
  ends_next p q ts r up begins fits =
      let order = fits.order in
      let less = up.0.0 in
      let in_rest : among r.end (q ∷ ts) ≡ true = sym (among_tail r.end p (q ∷ ts) (above_test r.end p (omega arith))) ∙ fits.ends in
      elim (cases_lt q r.end) [
        | inl over ↦ absurd (false_not_true (among q (p ∷ q ∷ ts)) (fits.apart q (omega arith) over) (among_tail q p (q ∷ ts) (above_test q p less) ∙ among_head q q ts (eq-eqb q q refl)))
        | inr not_over ↦ elim (cases_lt r.end q) [
          | inl under ↦ absurd (false_not_true (among r.end (q ∷ ts)) (none_between r.end q ts up.1.0 under) in_rest)
          | inr not_under ↦ omega arith
        ]
      ]

  row_is : (r : Row) (p q : ℕ) → r.begin ≡ p → r.end ≡ q → r.payload ≡ key ++ totals counted (living r.begin) (tally r.begin) → r ≡ row_from counted key living tally p q
  row_is r p q b e y =
      let payload = y ∙ ap (λ t. key ++ totals counted (living t) (tally t)) b in
      λ i. record { end = e i; begin = b i; payload = payload i }

  dropped_fits : (p : ℕ) (ts : List ℕ) (r : Row) → AllAbove p ts → nat_eq r.begin p ≡ false → IsIn (p ∷ ts) r → IsIn ts r
  dropped_fits p ts r above other fits =
      let starts : among r.begin ts ≡ true = sym (among_tail r.begin p ts other) ∙ fits.starts in
      let begins = above_among p r.begin ts above starts in
      let order = fits.order in
      record {
        starts = starts;
        ends = sym (among_tail r.end p ts (above_test r.end p (omega arith))) ∙ fits.ends;
        apart = λ t over below. sym (among_tail t p ts (above_test t p (omega arith))) ∙ fits.apart t over below;
        order = order;
        lives = fits.lives;
        payload_is = fits.payload_is;
      }

  there_at : (p q : ℕ) (ts : List ℕ) (r : Row) (b : Bool) → nat_eq r.begin p ≡ b → Ascends (p ∷ q ∷ ts) → IsIn (p ∷ q ∷ ts) r → (IsIn (q ∷ ts) r → count_of r (rows_at counted key living tally (q ∷ ts)) ≡ 1) → count_of r (one_row counted key living tally p q) + count_of r (rows_at counted key living tally (q ∷ ts)) ≡ 1
  there_at p q ts r true is up fits rest =
      let begins = eqb-true r.begin p is in
      let first = one_there r p q (subst (λ t. 0 < living t) begins fits.lives) (row_is r p q begins (ends_next p q ts r up begins fits) fits.payload_is) in
      elim (cases_lt 0 (count_of r (rows_at counted key living tally (q ∷ ts)))) [
        | inl again ↦ let over = above_among p r.begin (q ∷ ts) up.0 (fits_from_there (q ∷ ts) r up.1 again).starts in absurd (omega arith)
        | inr no_more ↦ omega arith
      ]
  there_at p q ts r false is up fits rest =
      let other = eqb-false r.begin p is in
      elim (cases_lt 0 (count_of r (one_row counted key living tally p q))) [
        | inl here ↦ absurd (other (ap (λ (x : Row). x.begin) (one_from_there r p q here).is))
        | inr not_here ↦ omega (arith, rest (dropped_fits p (q ∷ ts) r up.0 is fits))
      ]

  -- a row that fits is there once
  pub there_from_fits : (ts : List ℕ) (r : Row) → Ascends ts → IsIn ts r → count_of r (rows_at counted key living tally ts) ≡ 1
  there_from_fits [] r up fits = let h = fits.starts in cc
  there_from_fits (p ∷ []) r up fits =
      let begins = only_time r.begin p (nat_eq r.begin p) refl fits.starts in
      let ends = only_time r.end p (nat_eq r.end p) refl fits.ends in
      let order = fits.order in
      absurd (omega arith)
  there_from_fits (p ∷ q ∷ ts) r up fits =
      count_of-append r (one_row counted key living tally p q) (rows_at counted key living tally (q ∷ ts))
      ∙ there_at p q ts r (nat_eq r.begin p) refl up fits (there_from_fits (q ∷ ts) r up.1)

  pub record IsNext (ts : List ℕ) (p : ℕ) : Type 0 where
    pub next : ℕ
    pub fits : IsIn ts (row_from counted key living tally p next)

  next_at : (p u p0 q0 : ℕ) (ts : List ℕ) (b : Bool) → nat_eq p p0 ≡ b → Ascends (p0 ∷ q0 ∷ ts) → 0 < living p → p < u → among p (p0 ∷ q0 ∷ ts) ≡ true → among u (p0 ∷ q0 ∷ ts) ≡ true
      → (among p (q0 ∷ ts) ≡ true → among u (q0 ∷ ts) ≡ true → IsNext (q0 ∷ ts) p) → IsNext (p0 ∷ q0 ∷ ts) p
  next_at p u p0 q0 ts true is up lives less here later rest =
      let same = eqb-true p p0 is in
      record { next = q0; fits = subst (λ t. IsIn (p0 ∷ q0 ∷ ts) (row_from counted key living tally t q0)) (sym same) (first_fits p0 q0 ts up (subst (λ t. 0 < living t) same lives)) }
  next_at p u p0 q0 ts false is up lives less here later rest =
      let in_rest : among p (q0 ∷ ts) ≡ true = sym (among_tail p p0 (q0 ∷ ts) is) ∙ here in
      let begins = above_among p0 p (q0 ∷ ts) up.0 in_rest in
      let found = rest in_rest (sym (among_tail u p0 (q0 ∷ ts) (above_test u p0 (omega arith))) ∙ later) in
      record { next = found.next; fits = later_fits p0 (q0 ∷ ts) (row_from counted key living tally p found.next) up.0 found.fits }

  -- a time from which rows are valid begins a row, where a later time is there
  pub next_of : (ts : List ℕ) (p u : ℕ) → Ascends ts → 0 < living p → p < u → among p ts ≡ true → among u ts ≡ true → IsNext ts p
  next_of [] p u up lives less here later = absurd (false_not_true false refl here)
  next_of (p0 ∷ []) p u up lives less here later =
      let one = only_time p p0 (nat_eq p p0) refl here in
      let other = only_time u p0 (nat_eq u p0) refl later in
      absurd (omega arith)
  next_of (p0 ∷ q0 ∷ ts) p u up lives less here later = next_at p u p0 q0 ts (nat_eq p p0) refl up lives less here later (λ h k. next_of (q0 ∷ ts) p u up.1 lives less h k)
