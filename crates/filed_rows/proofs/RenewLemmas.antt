-- The ends of filed rows, noted anew row by row and tag by tag.
use Rattle.std.proofs.Common.{◌≡◌, ◌≢◌, ℕ, ◌+◌, ◌*◌, ◌<◌, ◌≤◌, ◌⊎◌, inl, inr, List, [], ◌∷◌, true, cond, ap, sym, subst, arith, replicate}
use Rattle.std.specs.Prelude.{nat_le}
use Rattle.std.specs.List.{filter, Contains}
use Rattle.std.specs.List.Sorted.{IsPermutation}
use Rattle.std.proofs.lemmas.Bool.{cases_lt, cases_eq, le-leb}
use Rattle.std.proofs.lemmas.List.Folds.{sum_by-replicate}
use Rattle.cedr_base.specs.declared.time.TheConstants.{FOREVER}
use Rattle.cedr_base.specs.declared.row.Row.{Row}
use Rattle.cedr_base.specs.Rows.{one_if_same, count_of, SameRows}
use Rattle.cedr_base.proofs.Bags.{count_of-append, one_if_same_exact}
use Rattle.cedr_table.specs.Counted.{spread}
use Rattle.cedr_table.proofs.FilterLemmas.{count-filter}
use Rattle.filed_rows.specs.Filed.{FiledRows, under, IsInUse}
use Rattle.filed_rows.specs.Ends.{AreEnds}
use Rattle.filed_rows.specs.Spans.{ends_by}
use Rattle.filed_rows.proofs.FiledLemmas.{under_first, under_later}
use Rattle.filed_rows.proofs.EndLemmas.{came_there, stays_there}

-- each row that ends has its end among these, with a tag, or is still to come
abbrev pub AreNotedBut : List Row → List Row → ℕ → List (ℕ × ℕ) → Type 0
AreNotedBut rows rest tag ends = (r : Row) → 0 < count_of r rows → r.end < FOREVER → (Contains ends (r.end, tag)) ⊎ (0 < count_of r rest)

-- at first all that end are to come
pub all_to_come : (time : ℕ) (rows : List Row) (es found : List (Row × ℕ)) (tag : ℕ) (ends : List (ℕ × ℕ)) → FOREVER ≤ time + 1 → es ≡ found → SameRows (spread found) (filter (ends_by time) rows) → AreNotedBut rows (spread es) tag ends
all_to_come time rows es found tag ends last is same r there before =
    let ended : nat_le r.end time ≡ true = le-leb r.end time (omega (arith, last, before)) in
    let all = ap (λ (ds : List (Row × ℕ)). count_of r (spread ds)) is in
    inr (omega (arith, there, all, same.each r, count-filter r (ends_by time) rows, ap {B = ℕ} (λ b. cond b (count_of r rows) 0) ended))

-- copies of a row are copies of no other
same_copies : (r n : Row) (k : ℕ) → 0 < count_of r (replicate k n) → r ≡ n
same_copies r n k there = one_if_same_exact r n (elim (cases_lt 0 (one_if_same r n)) [
  | inl same ↦ same
  | inr none ↦ absurd (let nothing : one_if_same r n ≡ 0 = omega (arith, none) in omega (arith, there, sum_by-replicate (one_if_same r) k n, ap (λ (m : ℕ). k * m) nothing))
])

-- the end of a row came
pub row_noted : (rows : List Row) (es rest : List (Row × ℕ)) (n : Row) (k tag : ℕ) (ends ends' : List (ℕ × ℕ)) → es ≡ (n, k) ∷ rest → IsPermutation ((n.end, tag) ∷ ends) ends'
    → AreNotedBut rows (spread es) tag ends → AreNotedBut rows (spread rest) tag ends'
row_noted rows es rest n k tag ends ends' is came noted r there before = elim (noted r there before) [
  | inl has ↦ inl (stays_there (n.end, tag) (r.end, tag) ends ends' came has)
  | inr ahead ↦ split (cases_lt 0 (count_of r (spread rest))) (omega (arith, ahead, ap (λ (ds : List (Row × ℕ)). count_of r (spread ds)) is, count_of-append r (replicate k n) (spread rest)))
] where
  split : (0 < count_of r (spread rest)) ⊎ (count_of r (spread rest) ≤ 0) → 0 < count_of r (replicate k n) + count_of r (spread rest) → (Contains ends' (r.end, tag)) ⊎ (0 < count_of r (spread rest))
  split (inl later) sum = inr later
  split (inr none) sum = inl (subst (λ (x : Row). Contains ends' (x.end, tag)) (sym (same_copies r n k (omega (arith, none, sum)))) (came_there (n.end, tag) ends ends' came))

-- at last none is to come
pub all_noted : (rows : List Row) (es : List (Row × ℕ)) (tag : ℕ) (ends : List (ℕ × ℕ)) → es ≡ [] → AreNotedBut rows (spread es) tag ends → (r : Row) → 0 < count_of r rows → r.end < FOREVER → Contains ends (r.end, tag)
all_noted rows es tag ends none noted r there before = elim (noted r there before) [
  | inl has ↦ has
  | inr ahead ↦ absurd (omega (arith, ahead, ap (λ (ds : List (Row × ℕ)). count_of r (spread ds)) none))
]

-- the same under each tag
abbrev pub AreFiledBut : FiledRows → FiledRows → List (ℕ × ℕ) → Type 0
AreFiledBut filed rest ends = (tag : ℕ) → AreNotedBut (under filed tag) (under rest tag) tag ends

pub tags_to_come : (filed es : FiledRows) (ends : List (ℕ × ℕ)) → es ≡ filed → AreFiledBut filed es ends
tags_to_come filed es ends is tag r there before = inr (omega (arith, there, ap (λ (ds : FiledRows). count_of r (under ds tag)) is))

-- the ends of a tag's rows came
pub tag_noted : (filed es rest : FiledRows) (t : ℕ) (rows : List Row) (ends ends' : List (ℕ × ℕ)) → es ≡ (t, rows) ∷ rest
    → ((r : Row) → 0 < count_of r rows → r.end < FOREVER → Contains ends' (r.end, t)) → ((due : ℕ × ℕ) → Contains ends due → Contains ends' due) → AreFiledBut filed es ends → AreFiledBut filed rest ends'
tag_noted filed es rest t rows ends ends' is here others noted tag r there before = elim (noted tag r there before) [
  | inl has ↦ inl (others (r.end, tag) has)
  | inr ahead ↦ split (cases_eq tag t) (omega (arith, ahead, ap (λ (ds : FiledRows). count_of r (under ds tag)) is))
] where
  split : (tag ≡ t) ⊎ (tag ≢ t) → 0 < count_of r (under ((t, rows) ∷ rest) tag) → (Contains ends' (r.end, tag)) ⊎ (0 < count_of r (under rest tag))
  split (inl same) now =
      let first = ap (λ (q : ℕ). count_of r (under ((t, rows) ∷ rest) q)) same in
      inl (subst (λ (q : ℕ). Contains ends' (r.end, q)) (sym same) (here r (omega (arith, now, first, ap (count_of r) (under_first (t, rows) rest))) before))
  split (inr other) now = inr (omega (arith, now, ap (count_of r) (under_later (t, rows) rest tag other)))

pub tags_noted : (filed es : FiledRows) (ends : List (ℕ × ℕ)) → es ≡ [] → AreFiledBut filed es ends → ((tag : ℕ) → IsInUse filed tag) → AreEnds filed ends
tags_noted filed es ends none noted used = record {
  each = λ tag r there before.
      elim (noted tag r there before) [
        | inl has ↦ has
        | inr ahead ↦ absurd (omega (arith, ahead, ap (λ (ds : FiledRows). count_of r (under ds tag)) none))
      ];
  in_use = used;
}
