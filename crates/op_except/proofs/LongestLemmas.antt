-- The parts are the longest parts of a row's life that meet none of the others.
use Rattle.std.proofs.Common.{◌≡◌, ◌∙◌, ℕ, ◌<◌, ◌≤◌, ◌⊎◌, inl, inr, List, [], ◌∷◌, Bool, true, false, cond, sym, subst, arith}
use Rattle.std.specs.Prelude.{nat_lt}
use Rattle.std.proofs.lemmas.Bool.{cases_lt}
use Rattle.cedr_base.specs.declared.row.Row.{Row}
use Rattle.cedr_base.specs.Rows.{same_row, count_of, AreRows}
use Rattle.cedr_base.proofs.Bags.{count_of-append, count_of-cons, one_if_same_exact}
use Rattle.change_laws.proofs.BagSums.{count_of-itself}
use Rattle.cedr_table.proofs.RowsLemmas.{first_is, others_are}
use Rattle.op_except.specs.Parts.{row_until, row_since, parts}
use Rattle.op_except.specs.Standing.{NeverMeet}
use Rattle.op_except.proofs.PartLemmas.{parts_within, single}

-- a part meets none of the others
pub parts_free : (a x : Row) (bs : List Row) → AreRows bs → 0 < count_of x (parts a bs) → (b : Row) → 0 < count_of b bs → NeverMeet x b
parts_free a x [] are there b has = absurd (omega arith)
parts_free a x (c ∷ bs) are there b has = elim (cases_lt 0 (count_of x (parts (row_until c.begin a) bs))) [
  | inl first ↦ elim (cases_lt 0 (count_of b bs)) [
    | inl rest ↦ parts_free (row_until c.begin a) x bs (others_are c bs are) first b rest
    | inr none ↦
        let same : b ≡ c = one_if_same_exact b c (omega (arith, count_of-cons b c bs)) in
        let by = (parts_within (row_until c.begin a) x bs first).by in
        subst (λ (y : Row). NeverMeet x y) (sym same) (inl (omega arith))
  ]
  | inr second ↦
      let there' : 0 < count_of x (parts (row_since c.end a) bs) = omega (arith, count_of-append x (parts (row_until c.begin a) bs) (parts (row_since c.end a) bs)) in
      elim (cases_lt 0 (count_of b bs)) [
        | inl rest ↦ parts_free (row_since c.end a) x bs (others_are c bs are) there' b rest
        | inr none ↦
            let same : b ≡ c = one_if_same_exact b c (omega (arith, count_of-cons b c bs)) in
            let from = (parts_within (row_since c.end a) x bs there').from in
            subst (λ (y : Row). NeverMeet x y) (sym same) (inr (omega arith))
      ]
]

bit_once : (b : Bool) → cond {A = ℕ} b 1 0 ≤ 1
bit_once true = omega arith
bit_once false = omega arith

one_once : (a x : Row) (b : Bool) → count_of x (cond b (a ∷ []) []) ≤ 1
one_once a x true = omega (arith, count_of-cons x a [], bit_once (same_row x a))
one_once a x false = omega arith

-- no part is there twice: what lies before another one begins ends where what lies from its end on hasn't begun
pub parts_once : (a x : Row) (bs : List Row) → AreRows bs → count_of x (parts a bs) ≤ 1
parts_once a x [] are = one_once a x (nat_lt a.begin a.end)
parts_once a x (b ∷ bs) are =
    let before = parts_once (row_until b.begin a) x bs (others_are b bs are) in
    let after = parts_once (row_since b.end a) x bs (others_are b bs are) in
    let both = count_of-append x (parts (row_until b.begin a) bs) (parts (row_since b.end a) bs) in
    elim (cases_lt 0 (count_of x (parts (row_until b.begin a) bs))) [
      | inl first ↦ elim (cases_lt 0 (count_of x (parts (row_since b.end a) bs))) [
        | inl second ↦
            let here = parts_within (row_until b.begin a) x bs first in
            let there = parts_within (row_since b.end a) x bs second in
            absurd (omega (arith, here.by, here.lives, there.from, (first_is b bs are).lives))
        | inr none ↦ omega (arith, before, both)
      ]
      | inr none ↦ omega (arith, after, both)
    ]

whole_at : (a x : Row) (b : Bool) → 0 < count_of x (cond b (a ∷ []) []) → x ≡ a
whole_at a x true there = one_if_same_exact x a (omega (arith, count_of-cons x a []))
whole_at a x false there = absurd (omega arith)

-- two different parts never meet: they lie on two sides of one of the others
pub parts_apart : (a x y : Row) (bs : List Row) → AreRows bs → 0 < count_of x (parts a bs) → 0 < count_of y (parts a bs) → (x ≡ y → ⊥) → NeverMeet x y
parts_apart a x y [] are there other differ = absurd (differ (whole_at a x (nat_lt a.begin a.end) there ∙ sym (whole_at a y (nat_lt a.begin a.end) other)))
parts_apart a x y (b ∷ bs) are there other differ =
    let lives = (first_is b bs are).lives in
    let of_x = count_of-append x (parts (row_until b.begin a) bs) (parts (row_since b.end a) bs) in
    let of_y = count_of-append y (parts (row_until b.begin a) bs) (parts (row_since b.end a) bs) in
    elim (cases_lt 0 (count_of x (parts (row_until b.begin a) bs))) [
      | inl x_before ↦ elim (cases_lt 0 (count_of y (parts (row_until b.begin a) bs))) [
        | inl y_before ↦ parts_apart (row_until b.begin a) x y bs (others_are b bs are) x_before y_before differ
        | inr none ↦
            let x_part = parts_within (row_until b.begin a) x bs x_before in
            let y_part = parts_within (row_since b.end a) y bs (omega (arith, other, none, of_y)) in
            inl (omega (arith, x_part.by, y_part.from, lives))
      ]
      | inr none ↦ elim (cases_lt 0 (count_of y (parts (row_since b.end a) bs))) [
        | inl y_after ↦ parts_apart (row_since b.end a) x y bs (others_are b bs are) (omega (arith, there, none, of_x)) y_after differ
        | inr no_more ↦
            let x_part = parts_within (row_since b.end a) x bs (omega (arith, there, none, of_x)) in
            let y_part = parts_within (row_until b.begin a) y bs (omega (arith, other, no_more, of_y)) in
            inr (omega (arith, y_part.by, x_part.from, lives))
      ]
    ]

-- and a part of the row that is no part of a longer one is there: any life within the row that meets none of the others lies
-- within one of the parts
pub record Covered (a : Row) (bs : List Row) (begin end : ℕ) : Type 0 where
  pub part : Row
  pub there : 0 < count_of part (parts a bs)
  pub from : part.begin ≤ begin
  pub by : end ≤ part.end

pub all_covered : (a : Row) (bs : List Row) (begin end : ℕ) → begin < end → a.begin ≤ begin → end ≤ a.end → ((b : Row) → 0 < count_of b bs → (end ≤ b.begin) ⊎ (b.end ≤ begin)) → Covered a bs begin end
all_covered a [] begin end lives from by free = record {
  part = a;
  there = subst (λ (rows : List Row). 0 < count_of a rows) (sym (single a (omega arith))) (count_of-itself a []);
  from = from;
  by = by;
}
all_covered a (b ∷ bs) begin end lives from by free = elim (free b (count_of-itself b bs)) [
  | inl before ↦
      let h = all_covered (row_until b.begin a) bs begin end lives from (omega arith) (λ c has. free c (omega (arith, count_of-cons c b bs))) in
      record { part = h.part; there = (let has = h.there in omega (arith, count_of-append h.part (parts (row_until b.begin a) bs) (parts (row_since b.end a) bs))); from = h.from; by = h.by }
  | inr after ↦
      let h = all_covered (row_since b.end a) bs begin end lives (omega arith) by (λ c has. free c (omega (arith, count_of-cons c b bs))) in
      record { part = h.part; there = (let has = h.there in omega (arith, count_of-append h.part (parts (row_until b.begin a) bs) (parts (row_since b.end a) bs))); from = h.from; by = h.by }
]
