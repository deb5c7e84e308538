-- Each key is in exactly one of the parts.
use Rattle.std.proofs.Common.{◌≡◌, inl, inr, ℕ, zero, suc, ◌+◌, ◌<◌, ◌≤◌, Bool, cond, refl, ap, arith, eq-eqb}
use Rattle.std.proofs.lemmas.Bool.{cases_lt, ne_eqb}
use Rattle.std.specs.Prelude.{Option, None, Some, nat_eq, sum_by}
use Rattle.std.proofs.lemmas.List.Sums.{sum_by-cons}
use Rattle.std.proofs.lemmas.Nat.{mod_below}
use Rattle.cedr_base.specs.declared.field.Field.{Field}
use Rattle.plan_keys.specs.Keys.{AreShares}
use Rattle.plan_parts.specs.Parts.{part_of, is_in_part, shares_from}

-- a key is in one of so many parts
part_within : (count : ℕ) (key : Option Field) → 0 < count → part_of count key < count
part_within count None some = some
part_within count (Some field) some = mod_below _ count some

-- whether the key is in a part, as a number
abbrev one_in : ℕ → Option Field → (Option Field → Bool) → ℕ
one_in count key mine = cond (mine key) 1 0

-- a part counts for one where the key is in it, and else for none
here : (n m : ℕ) → n ≡ m → cond {A = ℕ} (nat_eq n m) 1 0 ≡ 1
here n m is = ap {B = ℕ} (λ b. cond b 1 0) (eq-eqb n m is)

not_here : (n m : ℕ) → n < m → cond {A = ℕ} (nat_eq n m) 1 0 ≡ 0
not_here n m less = ap {B = ℕ} (λ b. cond b 1 0) (ne_eqb n m (λ e. omega (arith, less, e)))

not_there : (n m : ℕ) → m < n → cond {A = ℕ} (nat_eq n m) 1 0 ≡ 0
not_there n m less = ap {B = ℕ} (λ b. cond b 1 0) (ne_eqb n m (λ e. omega (arith, less, e)))

module _ (count : ℕ) (key : Option Field) where
  -- a key of an earlier part is in none
  in_none : (number first : ℕ) → part_of count key < first → sum_by (one_in count key) (shares_from count first number) ≡ 0
  in_none zero first before = refl
  in_none (suc number) first before =
      omega (
        arith,
        sum_by-cons (one_in count key) (is_in_part count first) (shares_from count (first + 1) number),
        not_here (part_of count key) first before,
        in_none number (first + 1) (omega (arith, before)),
      )

  -- and a key of one of them is in one
  in_one : (number first : ℕ) → first ≤ part_of count key → part_of count key < first + number → sum_by (one_in count key) (shares_from count first number) ≡ 1
  in_one zero first from until = absurd (omega (arith, from, until))
  in_one (suc number) first from until = elim (cases_lt first (part_of count key)) [
    | inl less ↦
        omega (
          arith,
          sum_by-cons (one_in count key) (is_in_part count first) (shares_from count (first + 1) number),
          not_there (part_of count key) first less,
          in_one number (first + 1) (omega (arith, less)) (omega (arith, until)),
        )
    | inr upto ↦
        omega (
          arith,
          sum_by-cons (one_in count key) (is_in_part count first) (shares_from count (first + 1) number),
          here (part_of count key) first (omega (arith, from, upto)),
          in_none number (first + 1) (omega (arith, upto)),
        )
  ]

-- the parts share the keys
pub are_shares : (count : ℕ) → 0 < count → AreShares (shares_from count 0 count)
are_shares count some key = in_one count key count 0 (omega arith) (omega (arith, part_within count key some))
