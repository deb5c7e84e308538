-- What a change of a table does to it and to sums over it.
use Rattle.std.proofs.Common.{◌≡◌, ℕ, ◌+◌, ◌<◌, ◌≤◌, ◌⊎◌, inl, inr, List, [], ◌∷◌, ◌++◌, Bool, true, false, cond, refl, ap, subst, sym, ◌∙◌, arith}
use Rattle.std.specs.Prelude.{sum_by, nat_lt}
use Rattle.std.proofs.lemmas.List.Sums.{sum_by-append}
use Rattle.std.proofs.lemmas.Bool.{ltb-true, cases_lt, lt-ltb, le-ltb}
use Rattle.cedr_base.specs.declared.row.Row.{Row}
use Rattle.cedr_base.specs.declared.change.Change.{Change}
use Rattle.cedr_base.specs.declared.change.Change.TheVariants.{Add, Cut}
use Rattle.cedr_base.specs.Rows.{IsRow, count_of, SameRows, same_row, one_if_same}
use Rattle.cedr_base.specs.Changes.{IsChange, puts, takes, remnant, MayFollow}
use Rattle.cedr_base.proofs.Bags.{same_row_exact, count_of-append, one_if_same_exact}
use Rattle.change_laws.specs.Repairs.{IsMoved}
use Rattle.change_laws.specs.Bags.{without}
use Rattle.change_laws.proofs.BagSums.{sum_by-same, sum_by-without}

-- what a change does to a sum over a bag
pub sum_by-moved : (w : Row → ℕ) (c : Change) (old new : List Row) → SameRows (new ++ takes c) (old ++ puts c)
    → sum_by w new + sum_by w (takes c) ≡ sum_by w old + sum_by w (puts c)
sum_by-moved w c old new moved = sym (sum_by-append w new (takes c)) ∙ (sum_by-same w _ _ moved ∙ sum_by-append w old (puts c))

-- what may be cut is there, so its part of a sum is
pub sum_by-there : (w : Row → ℕ) (c : Change) (rows : List Row) → MayFollow rows [] c → sum_by w (takes c) ≤ sum_by w rows
sum_by-there w (Add a) rows h = omega arith
sum_by-there w (Cut a e) rows h = omega (arith, sum_by-without w a rows (omega (arith, h.1)))

-- what may follow is a change
pub may_is : (old : List Row) (before : List Change) (c : Change) → MayFollow old before c → IsChange c
may_is old before (Add a) h = h
may_is old before (Cut a e) h = h.0

-- what a cut leaves, where it is something
pub remnant_some : (row : Row) (end : ℕ) → row.begin < end → remnant row end ≡ record row { end = end } ∷ []
remnant_some row end h = ap {B = List Row} (λ b. cond b (record row { end = end } ∷ []) []) (lt-ltb row.begin end h)

-- what a cut leaves, where it is nothing
pub remnant_none : (row : Row) (end : ℕ) → end ≤ row.begin → remnant row end ≡ []
remnant_none row end h = ap {B = List Row} (λ b. cond b (record row { end = end } ∷ []) []) (le-ltb row.begin end h)

other_row : (r x y : Row) (b : Bool) → r ≡ x → same_row r y ≡ b → (x ≡ y → ⊥) → cond {A = ℕ} b 1 0 ≡ 0
other_row r x y false is h apart = refl
other_row r x y true is h apart = absurd (apart (sym is ∙ same_row_exact r y h))

-- a row is no copy of one of two rows that differ
pub one_of_two : (r x y : Row) (b : Bool) → same_row r x ≡ b → (x ≡ y → ⊥) → (one_if_same r x ≡ 0) ⊎ (one_if_same r y ≡ 0)
one_of_two r x y false h apart = inl (ap {B = ℕ} (λ b. cond b 1 0) h)
one_of_two r x y true h apart = inr (other_row r x y (same_row r y) (same_row_exact r x h) refl apart)

apart_remnant : (a : Row) (e : ℕ) (r : Row) (b : Bool) → e < a.end → (count_of r (a ∷ []) ≡ 0) ⊎ (count_of r (cond b (record a { end = e } ∷ []) []) ≡ 0)
apart_remnant a e r false h = inr refl
apart_remnant a e r true h = elim (one_of_two r a (record a { end = e }) _ refl (λ same. let ends = ap (λ (x : Row). x.end) same in absurd (omega arith))) [ inl p ↦ inl (omega (arith, p)) | inr q ↦ inr (omega (arith, q)) ]

-- no change takes and puts the same row
pub apart_change : (c : Change) (r : Row) → IsChange c → (count_of r (takes c) ≡ 0) ⊎ (count_of r (puts c) ≡ 0)
apart_change (Add a) r h = inl refl
apart_change (Cut a e) r h = apart_remnant a e r (nat_lt a.begin e) h.2

-- the copies of a row in a list of one row or none
pub count_one : (r x : Row) (b : Bool) → count_of r (cond b (x ∷ []) []) ≡ cond b (one_if_same r x) 0
count_one r x true = omega arith
count_one r x false = refl

-- the sum over a list of one row or none
pub sum_one : (w : Row → ℕ) (x : Row) (b : Bool) → sum_by w (cond b (x ∷ []) []) ≡ cond b (w x) 0
sum_one w x true = omega arith
sum_one w x false = refl

-- a number, or 0 in its place, is 0 where the number is
pub none_either : (b : Bool) (n : ℕ) → n ≡ 0 → cond b n 0 ≡ 0
none_either true n h = h
none_either false n h = refl

remnant_is_row : (a r : Row) (e : ℕ) (b : Bool) → nat_lt a.begin e ≡ b → IsRow a → e < a.end → 0 < count_of r (cond b (record a { end = e } ∷ []) []) → IsRow r
remnant_is_row a r e true h ra shorter there =
    let is : r ≡ record a { end = e } = one_if_same_exact r (record a { end = e }) (omega arith) in
    let lives = ltb-true a.begin e h in
    subst IsRow (sym is) (record { lives = lives; begins = ra.begins; ends = let x = ra.ends in omega arith })
remnant_is_row a r e false h ra shorter there = absurd (omega arith)

-- what a change puts is a row
pub puts_are_rows : (c : Change) (r : Row) → IsChange c → 0 < count_of r (puts c) → IsRow r
puts_are_rows (Add a) r h there = subst IsRow (sym (one_if_same_exact r a (omega arith))) h
puts_are_rows (Cut a e) r h there = remnant_is_row a r e (nat_lt a.begin e) refl h.0 h.2 there

-- two tables that were the same bag and took the same change are the same bag
pub same_moves : (c : Change) (xs xs' ys ys' : List Row) → IsMoved c xs xs' → IsMoved c ys ys' → SameRows xs ys → SameRows xs' ys'
same_moves c xs xs' ys ys' h k same = record {
  each = λ r.
      omega (arith, h.sums.each r, k.sums.each r, same.each r, count_of-append r xs' (takes c), count_of-append r xs (puts c), count_of-append r ys' (takes c), count_of-append r ys (puts c));
}

-- a row of the new table was in the old one, or the change put it
pub row_came : (c : Change) (old new : List Row) (r : Row) → IsMoved c old new → 0 < count_of r new → (0 < count_of r old) ⊎ (0 < count_of r (puts c))
row_came c old new r h there = elim (cases_lt 0 (count_of r old)) [
  | inl was ↦ inl was
  | inr wasnt ↦ inr (omega (arith, h.sums.each r, count_of-append r new (takes c), count_of-append r old (puts c)))
]

-- a table after a change
abbrev pub applied : Change → List Row → List Row
applied (Add a) rows = a ∷ rows
applied (Cut a e) rows = remnant a e ++ without a rows

-- the table after a change that may follow in it is the old one with the change's delta
pub applied_moves : (c : Change) (rows : List Row) → MayFollow rows [] c → IsMoved c rows (applied c rows)
applied_moves (Add a) rows h = record { sums = record { each = λ r. omega (arith, count_of-append r (a ∷ rows) [], count_of-append r rows (a ∷ []), count_of-append r (a ∷ []) rows) } }
applied_moves (Cut a e) rows h = record { sums = record { each = λ r. omega (arith, count_of-append r (remnant a e ++ without a rows) (a ∷ []), count_of-append r (remnant a e) (without a rows), count_of-append r rows (remnant a e), sum_by-without (one_if_same r) a rows (omega (arith, h.1))) } }
