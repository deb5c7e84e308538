-- Parts of rows with one other row more, and of shorter rows.
use Rattle.std.proofs.Common.{◌≡◌, ℕ, ◌<◌, ◌≤◌, inl, inr, List, [], ◌∷◌, ◌++◌, Bool, true, false, cond, refl, ap, sym, ◌∙◌, subst, arith, min, max}
use Rattle.std.specs.Prelude.{sum_by, nat_lt}
use Rattle.std.proofs.lemmas.Bool.{ltb-true, ltb-false, lt-ltb, le-ltb, cases_lt}
use Rattle.std.proofs.lemmas.List.Sums.{sum_by-cons, sum_by-append}
use Rattle.cedr_base.specs.declared.row.Row.{Row}
use Rattle.cedr_base.specs.Rows.{count_of}
use Rattle.cedr_base.proofs.Bags.{count_of-append, count_of-cons, one_if_same_exact}
use Rattle.change_laws.proofs.BagSums.{count_of-itself}
use Rattle.cedr_expr.specs.declared.test.Test.{Test}
use Rattle.cedr_expr.specs.Tests.{passes}
use Rattle.op_except.specs.Parts.{row_until, row_since, parts, matching, excepted}
use Rattle.op_except.specs.Standing.{NeverMeet}
use Rattle.op_except.specs.PartLaws.{split_sum, parts_swap}

-- the row itself, where it isn't empty
pub single : (x : Row) → x.begin < x.end → parts x [] ≡ x ∷ []
single x lives = ap {B = List Row} (λ b. cond b (x ∷ []) []) (lt-ltb x.begin x.end lives)

-- what is empty
pub nothing_left : (x : Row) → x.end ≤ x.begin → parts x [] ≡ []
nothing_left x void = ap {B = List Row} (λ b. cond b (x ∷ []) []) (le-ltb x.begin x.end void)

-- what is empty has no part
pub parts_none : (x : Row) (bs : List Row) → x.end ≤ x.begin → parts x bs ≡ []
parts_none x [] void = nothing_left x void
parts_none x (b ∷ bs) void = λ i. parts_none (row_until b.begin x) bs (omega arith) i ++ parts_none (row_since b.end x) bs (omega arith) i

-- where a part lies
pub record Within (a x : Row) : Type 0 where
  pub from : a.begin ≤ x.begin
  pub lives : x.begin < x.end
  pub by : x.end ≤ a.end
  pub same : x.payload ≡ a.payload

one_within : (a x : Row) (b : Bool) → nat_lt a.begin a.end ≡ b → 0 < count_of x (cond b (a ∷ []) []) → Within a x
one_within a x true is there =
    let same : x ≡ a = one_if_same_exact x a (omega arith) in
    let lives = ltb-true a.begin a.end is in
    subst (λ (y : Row). Within a y) (sym same) (record { from = omega arith; lives = lives; by = omega arith; same = refl })
one_within a x false is there = absurd (omega arith)

-- each part lies within the row, isn't empty, and has its payload
pub parts_within : (a x : Row) (bs : List Row) → 0 < count_of x (parts a bs) → Within a x
parts_within a x [] there = one_within a x (nat_lt a.begin a.end) refl there
parts_within a x (b ∷ bs) there = elim (cases_lt 0 (count_of x (parts (row_until b.begin a) bs))) [
  | inl first ↦
      let h = parts_within (row_until b.begin a) x bs first in
      let by = h.by in
      record { from = h.from; lives = h.lives; by = omega arith; same = h.same }
  | inr none ↦
      let h = parts_within (row_since b.end a) x bs (omega (arith, count_of-append x (parts (row_until b.begin a) bs) (parts (row_since b.end a) bs))) in
      let from = h.from in
      record { from = omega arith; lives = h.lives; by = h.by; same = h.same }
]

module _ (w : Row → ℕ) where
  -- an empty row has no part
  pub parts_empty : (x : Row) (bs : List Row) → x.end ≤ x.begin → sum_by w (parts x bs) ≡ 0
  parts_empty x [] void = ap (sum_by w) (nothing_left x void)
  parts_empty x (b ∷ bs) void = omega (arith, split_sum w x b bs, parts_empty (row_until b.begin x) bs (omega arith), parts_empty (row_since b.end x) bs (omega arith))

  -- a row that doesn't meet another one has the same parts without it
  pub parts_apart : (x b : Row) (bs : List Row) → b.begin < b.end → NeverMeet x b → sum_by w (parts x (b ∷ bs)) ≡ sum_by w (parts x bs)
  parts_apart x b bs lives (inl before) =
      let same : min x.end b.begin ≡ x.end = omega arith in
      omega (arith, split_sum w x b bs, ap (λ n. sum_by w (parts (record x { end = n }) bs)) same, parts_empty (row_since b.end x) bs (omega arith))
  parts_apart x b bs lives (inr after) =
      let same : max x.begin b.end ≡ x.begin = omega arith in
      omega (arith, split_sum w x b bs, ap (λ n. sum_by w (parts (record x { begin = n }) bs)) same, parts_empty (row_until b.begin x) bs (omega arith))

  last_empty : (a b : Row) (lives : Bool) → nat_lt a.begin a.end ≡ lives → sum_by w (parts a (b ∷ [])) ≡ sum_by (λ x. sum_by w (parts x (b ∷ []))) (cond lives (a ∷ []) [])
  last_empty a b true is = sym (sum_by-cons (λ x. sum_by w (parts x (b ∷ []))) a [] ∙ omega arith)
  last_empty a b false is = parts_empty a (b ∷ []) (ltb-false a.begin a.end is)

  -- with one other row more, each part has its parts without that one
  pub parts_last : (a b : Row) (bs : List Row) → sum_by w (parts a (b ∷ bs)) ≡ sum_by (λ x. sum_by w (parts x (b ∷ []))) (parts a bs)
  parts_last a b [] = last_empty a b (nat_lt a.begin a.end) refl
  parts_last a b (c ∷ bs) =
      parts_swap w a b c bs
      ∙ omega (
        arith,
        split_sum w a c (b ∷ bs),
        parts_last (row_until c.begin a) b bs,
        parts_last (row_since c.end a) b bs,
        sum_by-append (λ x. sum_by w (parts x (b ∷ []))) (parts (row_until c.begin a) bs) (parts (row_since c.end a) bs),
      )

  untils : (x : Row) (s t : ℕ) → row_until s (row_until t x) ≡ row_until t (row_until s x)
  untils x s t = let is : min (min x.end t) s ≡ min (min x.end s) t = omega arith in ap (λ n. record x { end = n }) is

  until_empty : (e : ℕ) (a : Row) (lives : Bool) → nat_lt a.begin a.end ≡ lives → sum_by w (parts (row_until e a) []) ≡ sum_by (λ x. sum_by w (parts (row_until e x) [])) (cond lives (a ∷ []) [])
  until_empty e a true is = sym (sum_by-cons (λ x. sum_by w (parts (row_until e x) [])) a [] ∙ omega arith)
  until_empty e a false is = let over = ltb-false a.begin a.end is in parts_empty (row_until e a) [] (omega arith)

  -- the parts of a row as far as a time are its parts as far as that
  pub parts_until : (e : ℕ) (a : Row) (bs : List Row) → sum_by w (parts (row_until e a) bs) ≡ sum_by (λ x. sum_by w (parts (row_until e x) [])) (parts a bs)
  parts_until e a [] = until_empty e a (nat_lt a.begin a.end) refl
  parts_until e a (b ∷ bs) =
      omega (
        arith,
        split_sum w (row_until e a) b bs,
        ap (λ y. sum_by w (parts y bs)) (untils a b.begin e),
        parts_until e (row_until b.begin a) bs,
        parts_until e (row_since b.end a) bs,
        sum_by-append (λ x. sum_by w (parts (row_until e x) [])) (parts (row_until b.begin a) bs) (parts (row_since b.end a) bs),
      )

  gone_at : (a b : Row) (bs cs : List Row) (pass : Bool) → b.begin < b.end → NeverMeet a b → sum_by w (parts a bs) ≡ sum_by w (parts a cs) → sum_by w (parts a (cond pass (b ∷ bs) bs)) ≡ sum_by w (parts a cs)
  gone_at a b bs cs true lives apart rest = parts_apart a b bs lives apart ∙ rest
  gone_at a b bs cs false lives apart rest = rest

  -- rows that don't meet a row don't matter for it
  pub gone_parts : (tests : List Test) (a : Row) (gone kept : List Row) → ((b : Row) → 0 < count_of b gone → (b.begin < b.end) × NeverMeet a b) → sum_by w (excepted tests (gone ++ kept) a) ≡ sum_by w (excepted tests kept a)
  gone_parts tests a [] kept apart = refl
  gone_parts tests a (b ∷ gone) kept apart =
      let first = apart b (count_of-itself b gone) in
      gone_at a b (matching tests a (gone ++ kept)) (matching tests a kept) (passes tests a.payload b.payload) first.0 first.1
      (gone_parts tests a gone kept (λ c there. apart c (omega (arith, count_of-cons c b gone))))
