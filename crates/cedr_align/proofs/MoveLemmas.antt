-- Rows move out of a bag, one after the other.
use Rattle.std.proofs.Common.{◌≡◌, ℕ, ◌+◌, ◌<◌, inl, inr, List, [], ◌++◌, Bool, true, false, cond, not, nat_lt, ◌&&◌, ◌||◌, subst, refl, ap, sym, ◌∙◌, arith, length}
use Rattle.std.specs.Prelude.{filter, replicate, Option, Some, None}
use Rattle.std.proofs.lemmas.Bool.{cases_lt}
use Rattle.cedr_base.specs.declared.row.Row.{Row}
use Rattle.cedr_base.specs.Rows.{count_of, in_order, SameRows}
use Rattle.cedr_base.proofs.Bags.{count_of-append}
use Rattle.node_laws.specs.Surplus.{Ascend}
use Rattle.cedr_table.specs.Counted.{IsTakenOut}
use Rattle.cedr_table.proofs.FilterLemmas.{count-filter, count-rest, none_of_these, fewer_left}
use Rattle.node_laws.proofs.Order.{ascend-in_order, count-in_order}
use Rattle.cedr_align.specs.Released.{IsReleased}
use Rattle.node_laws.specs.Pass.{is_blocked, is_held}
use Rattle.cedr_align.specs.Moving.{has_ended, IsMovedOut}

-- some of the rows that pass a test moved
pub record IsMoving (goes : Row → Bool) (all left before released : List Row) : Type 0 where
  pub sums : (r : Row) → count_of r left + count_of r released ≡ count_of r all + count_of r before
  pub rest : (r : Row) → goes r ≡ false → count_of r left ≡ count_of r all

-- at first no row has moved
pub moving_first : (goes : Row → Bool) (all before : List Row) → IsMoving goes all all before before
moving_first goes all before = record { sums = λ r. refl; rest = λ r h. refl }

-- where some of the rows that pass a test moved, copies of one more that passes it may move, too
pub moving_more : (goes : Row → Bool) (row : Row) (n : ℕ) (all left left' before released released' : List Row) → goes row ≡ true → SameRows (replicate n row ++ left') left → released' ≡ released ++ replicate n row
    → IsMoving goes all left before released → IsMoving goes all left' before released'
moving_more goes row n all left left' before released released' passes out is moving = record {
  sums = λ r. omega (arith, moving.sums r, out.each r, count_of-append r (replicate n row) left', ap (count_of r) is, count_of-append r released (replicate n row));
  rest = λ r fails. omega (arith, moving.rest r fails, out.each r, count_of-append r (replicate n row) left', none_of_these goes row r n passes fails);
}

done_at : (goes : Row → Bool) (all left before released : List Row) (r : Row) (b : Bool) → goes r ≡ b → IsMoving goes all left before released → (0 < count_of r left → goes r ≡ false)
    → (count_of r left ≡ cond b 0 (count_of r all)) × (count_of r released ≡ count_of r before + cond b (count_of r all) 0)
done_at goes all left before released r true h moving none =
    let gone : count_of r left ≡ 0 = zero_or (count_of r left) (λ k. let e = none k in cc) in
    (gone, omega (arith, moving.sums r)) where
      zero_or : (n : ℕ) → (0 < n → ⊥) → n ≡ 0
      zero_or n k = elim (cases_lt 0 n) [ inl some ↦ absurd (k some) | inr nothing ↦ omega arith ]
done_at goes all left before released r false h moving none = let same = moving.rest r h in (same, omega (arith, moving.sums r))

-- none of the rows that are left passes
pub moving_done : (goes : Row → Bool) (all left before released : List Row) → ((r : Row) → 0 < count_of r left → goes r ≡ false) → IsMoving goes all left before released → IsMovedOut goes all left before released
moving_done goes all left before released none moving = record {
  left_are = record { each = λ r. (done_at goes all left before released r (goes r) refl moving (none r)).0 ∙ sym (count-rest r goes all) };
  released_are = record { each = λ r. (done_at goes all left before released r (goes r) refl moving (none r)).1 ∙ omega (arith, count_of-append r before (filter goes all), count-filter r goes all) };
}

none_of : {X : Type 0} (found : Option X) → ((x : X) → found ≡ Some x → ⊥) → found ≡ None
none_of None h = refl
none_of (Some x) h = absurd (h x refl)

-- one turn of moving rows out
pub moved_some : (goes : Row → Bool) (all left left' before released released' : List Row) (found : Option (Row × ℕ)) (row : Row) (n : ℕ) → found ≡ Some (row, n) → IsTakenOut goes left left' found → released' ≡ released ++ replicate n row
    → IsMoving goes all left before released → IsMoving goes all left' before released'
moved_some goes all left left' before released released' found row n is out pushed moving =
    let o = subst (λ (f : Option (Row × ℕ)). IsTakenOut goes left left' f) is out in
    moving_more goes row n all left left' before released released' o.0 o.3 pushed moving

-- a turn leaves fewer rows
pub moved_fewer : (goes : Row → Bool) (left left' : List Row) (found : Option (Row × ℕ)) (row : Row) (n : ℕ) → found ≡ Some (row, n) → IsTakenOut goes left left' found → length left' < length left
moved_fewer goes left left' found row n is out =
    let o = subst (λ (f : Option (Row × ℕ)). IsTakenOut goes left left' f) is out in
    fewer_left row n left left' o.1 o.3

-- after the last turn all have moved
pub moved_none : (goes : Row → Bool) (all left left' before released : List Row) (found : Option (Row × ℕ)) → ((x : Row × ℕ) → found ≡ Some x → ⊥) → IsTakenOut goes left left' found → IsMoving goes all left before released → IsMovedOut goes all left' before released
moved_none goes all left left' before released found none out moving =
    let o = subst (λ (f : Option (Row × ℕ)). IsTakenOut goes left left' f) (none_of found none) out in
    subst (λ (rows : List Row). IsMovedOut goes all rows before released) (sym o.0) (moving_done goes all left before released o.1 moving)

both_tests : (p q : Bool) (n : ℕ) → cond (not p && not q) n 0 ≡ cond q 0 (cond p 0 n)
both_tests true true n = refl
both_tests true false n = refl
both_tests false true n = refl
both_tests false false n = refl

held_test : (ended : Bool) (late blocked : Bool) → (not ended && (not late && blocked)) ≡ (not (ended || late) && not (not blocked))
held_test true late blocked = refl
held_test false true blocked = refl
held_test false false true = refl
held_test false false false = refl

other_tests : (p q : Bool) (n : ℕ) → cond (not p && not q) 0 n ≡ cond p n 0 + cond q (cond p 0 n) 0
other_tests true true n = omega arith
other_tests true false n = omega arith
other_tests false true n = omega arith
other_tests false false n = omega arith

module _ (block : Option ℕ) (ended : Bool) (mark high : ℕ) (all mid left out1 out2 : List Row)
    (one : IsMovedOut (has_ended ended mark) all mid [] out1) (two : IsMovedOut (λ r. not (is_blocked block high r)) mid left out1 out2) where
  test_is : (r : Row) → is_held block ended mark high r ≡ (not (has_ended ended mark r) && not (not (is_blocked block high r)))
  test_is r = held_test ended (nat_lt r.end mark) (is_blocked block high r)

  -- what stays is what is held
  pub stays_held : SameRows left (filter (is_held block ended mark high) all)
  stays_held = record {
    each = λ r.
        two.left_are.each r
        ∙ (count-rest r (λ x. not (is_blocked block high x)) mid
        ∙ (ap (λ n. cond (not (is_blocked block high r)) 0 n) (one.left_are.each r ∙ count-rest r (has_ended ended mark) all)
        ∙ (sym (both_tests (has_ended ended mark r) (not (is_blocked block high r)) (count_of r all))
        ∙ (ap (λ b. cond b (count_of r all) 0) (sym (test_is r)) ∙ sym (count-filter r (is_held block ended mark high) all)))));
  }

  -- and what moved out is the rest
  pub rest_moved : SameRows out2 (filter (λ r. not (is_held block ended mark high r)) all)
  rest_moved = record {
    each = λ r.
        let first : count_of r out1 ≡ cond (has_ended ended mark r) (count_of r all) 0 = one.released_are.each r ∙ count-filter r (has_ended ended mark) all in
        let mid_is : count_of r mid ≡ cond (has_ended ended mark r) 0 (count_of r all) = one.left_are.each r ∙ count-rest r (has_ended ended mark) all in
        let second : count_of r (filter (λ x. not (is_blocked block high x)) mid) ≡ cond (not (is_blocked block high r)) (cond (has_ended ended mark r) 0 (count_of r all)) 0 =
        count-filter r (λ x. not (is_blocked block high x)) mid ∙ ap (λ n. cond (not (is_blocked block high r)) n 0) mid_is in
        let whole : count_of r (filter (λ x. not (is_held block ended mark high x)) all) ≡ cond (not (has_ended ended mark r) && not (not (is_blocked block high r))) 0 (count_of r all) =
        count-rest r (is_held block ended mark high) all ∙ ap (λ b. cond b 0 (count_of r all)) (test_is r) in
        omega (
          arith,
          two.released_are.each r,
          count_of-append r out1 (filter (λ x. not (is_blocked block high x)) mid),
          first,
          second,
          whole,
          other_tests (has_ended ended mark r) (not (is_blocked block high r)) (count_of r all),
        );
  }

  -- in canonical order
  pub is_released : (sorted : List Row) → sorted ≡ in_order out2 → IsReleased (is_held block ended mark high) all sorted
  is_released sorted is = record {
    ascend = subst (λ (rows : List Row). Ascend rows) (sym is) (ascend-in_order out2);
    same = subst (λ (rows : List Row). SameRows rows (filter (λ r. not (is_held block ended mark high r)) all)) (sym is) (record { each = λ r. count-in_order r out2 ∙ rest_moved.each r });
  }
