-- The first one of times with tags.
use Rattle.std.proofs.Common.{◌≡◌, ℕ, ◌<◌, ◌≤◌, inl, inr, List, [], ◌∷◌, false, cond, refl, ap, arith, map, slice_index_or}
use Rattle.std.specs.Prelude.{nat_eq}
use Rattle.std.specs.List.{AllByRecursion}
use Rattle.std.specs.BinaryHeap.{IsUpperBound}
use Rattle.std.specs.Ordering.{nat_cmp, ordering_then, is_lt}
use Rattle.std.specs.declared.cmp.Ordering.{Ordering}
use Rattle.std.specs.declared.cmp.Ordering.TheVariants.{Less, Equal, Greater}
use Rattle.std.specs.declared.cmp.Reverse.{Reverse}
use Rattle.std.proofs.lemmas.Bool.{cases_lt, lt-ltb}
use Rattle.due_tags.specs.Due.{due_cmp}

-- what isn't greater than the top is no earlier
no_earlier : (x y : Reverse (ℕ × ℕ)) → is_lt (due_cmp x y) ≡ false → x.0.0 ≤ y.0.0
no_earlier x y most = elim (cases_lt y.0.0 x.0.0) [
  | inl earlier ↦
      (let less : nat_cmp y.0.0 x.0.0 ≡ Less = ap {B = Ordering} (λ b. cond b Less (cond (nat_eq y.0.0 x.0.0) Equal Greater)) (lt-ltb y.0.0 x.0.0 earlier) in
      let is = ap (λ (o : Ordering). is_lt (ordering_then o (nat_cmp y.0.1 x.0.1))) less in
      absurd cc)
  | inr late ↦ late
]

-- where the top comes after a time, so do all
pub all_later : (time : ℕ) (top : Reverse (ℕ × ℕ)) (items : List (Reverse (ℕ × ℕ))) → time < top.0.0 → IsUpperBound due_cmp top items → AllByRecursion (λ (due : ℕ × ℕ). time < due.0) (map (λ (due : Reverse (ℕ × ℕ)). due.0) items)
all_later time top [] late most = tt
all_later time top (y ∷ ys) late most = (let from = no_earlier top y most.0 in omega (arith, from, late), all_later time top ys late most.1)

-- what is popped is the first pair
pub popped_first : (top : Reverse (ℕ × ℕ)) (items : List (Reverse (ℕ × ℕ))) → top ≡ slice_index_or items 0 top → top.0 ≡ slice_index_or (map (λ (due : Reverse (ℕ × ℕ)). due.0) items) 0 top.0
popped_first top [] is = refl
popped_first top (y ∷ ys) is = ap (λ (d : Reverse (ℕ × ℕ)). d.0) is
