-- Tests on times.
use Rattle.std.proofs.Common.{◌≡◌, ℕ, ◌<◌, ◌≤◌, inl, inr, true, false, ap, sym, ◌∙◌, arith}
use Rattle.std.specs.Prelude.{nat_eq}
use Rattle.std.specs.Ordering.{nat_cmp, is_eq, is_lt}
use Rattle.std.specs.declared.cmp.Ordering.TheVariants.{Less, Equal, Greater}
use Rattle.std.specs.BTreeMap.{is_at}
use Rattle.std.specs.Cmp.{nat_cmp_is}
use Rattle.std.proofs.lemmas.Bool.{cases_lt, eq-eqb}
use Rattle.op_group.specs.TimeLaws.{below_test, above_test}

-- an earlier time compares as less
pub lt_cmp : (t u : ℕ) → t < u → nat_cmp t u ≡ Less
lt_cmp t u h = sym (nat_cmp_is t u Less h)

-- a later time compares as greater
pub gt_cmp : (t u : ℕ) → u < t → nat_cmp t u ≡ Greater
gt_cmp t u h = sym (nat_cmp_is t u Greater h)

-- the same time compares as equal
pub eq_cmp : (t u : ℕ) → t ≡ u → nat_cmp t u ≡ Equal
eq_cmp t u h = sym (nat_cmp_is t u Equal h)

-- a map finds a time by equality
pub at_is : (t u : ℕ) → is_at (nat_cmp t) u ≡ nat_eq t u
at_is t u = elim (cases_lt t u) [
  | inl below ↦ ap is_eq (lt_cmp t u below) ∙ sym (below_test t u below)
  | inr not_below ↦ elim (cases_lt u t) [
    | inl above ↦ ap is_eq (gt_cmp t u above) ∙ sym (above_test t u above)
    | inr not_above ↦ let same : t ≡ u = omega arith in ap is_eq (eq_cmp t u same) ∙ sym (eq-eqb t u same)
  ]
]

-- a time that compares as less than another one is before it
pub cmp_lt : (t u : ℕ) → nat_cmp t u ≡ Less → t < u
cmp_lt t u h = elim (cases_lt t u) [
  | inl below ↦ below
  | inr not_below ↦ elim (cases_lt u t) [
    | inl above ↦ let other = gt_cmp t u above in cc
    | inr not_above ↦ let same = eq_cmp t u (omega arith) in cc
  ]
]

-- a time that doesn't compare as less than another one isn't before it
pub not_lt_cmp : (t u : ℕ) → is_lt (nat_cmp t u) ≡ false → u ≤ t
not_lt_cmp t u h = elim (cases_lt t u) [
  | inl below ↦ let e : true ≡ false = sym (ap is_lt (lt_cmp t u below)) ∙ h in cc
  | inr not_below ↦ not_below
]
