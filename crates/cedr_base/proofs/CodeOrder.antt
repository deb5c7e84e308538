-- How codes compare, eight bytes at once and then byte by byte.
use Rattle.std.proofs.Common.{◌≡◌, ◌≢◌, ℕ, zero, suc, ◌+◌, ◌-◌, ◌^◌, ◌<◌, ◌≤◌, min, inl, inr, List, [], ◌∷◌, ◌++◌, refl, length, take, drop, ap, ap₂, sym, ◌∙◌, arith, drop-cons, drop_of_length-le}
use Rattle.std.specs.declared.cmp.Ordering.{Ordering}
use Rattle.std.specs.Ordering.{ordering_then, nat_cmp}
use Rattle.std.specs.Int.{bytes_high_first}
use Rattle.std.proofs.lemmas.Bool.{cases_lt}
use Rattle.std.proofs.lemmas.List.{take-append-drop, drop-drop}
use Rattle.std.proofs.Math.Nat.{div-eq_of_lt}
use Rattle.std.proofs.Math.Seq.{take-add}
use Rattle.cedr_base.specs.Order.{text_cmp}
use Rattle.cedr_base.specs.CodeLaws.{cmp_less, cmp_equal, cmp_greater, level_bytes}
use Rattle.cedr_base.proofs.FieldBytes.{tail_of}

-- numbers that differ decide
pub differ_first : (m n : ℕ) (o rest : Ordering) → o ≡ ordering_then (nat_cmp m n) rest → m ≢ n → nat_cmp m n ≡ o
differ_first m n o rest is differ = elim (cases_lt m n) [
  | inl low ↦ rw (is, cmp_less m n low)
  | inr high ↦ rw (is, cmp_greater m n (omega arith))
]

-- and equal ones leave it to what follows
pub level_first : (m n : ℕ) (o rest : Ordering) → o ≡ ordering_then (nat_cmp m n) rest → m ≡ n → rest ≡ o
level_first m n o rest is level = rw (is, cmp_equal m n level)

-- where two strings of bytes begin with the same, what follows a part of it decides
same_first : (j k : ℕ) (xs ys : List ℕ) → j ≤ k → take k xs ≡ take k ys → text_cmp (drop j xs) (drop j ys) ≡ text_cmp xs ys
same_first zero k xs ys within same = refl
same_first (suc j) zero xs ys within same = absurd (omega arith)
same_first (suc j) (suc k) [] [] within same = refl
same_first (suc j) (suc k) [] (y ∷ ys) within same = cc
same_first (suc j) (suc k) (x ∷ xs) [] within same = cc
same_first (suc j) (suc k) (x ∷ xs) (y ∷ ys) within same =
    let level : x ≡ y = cc in
    let rest : take k xs ≡ take k ys = cc in
    same_first j k xs ys (omega arith) rest ∙ level_first x y _ (text_cmp xs ys) refl level

-- the first bytes of what is left
front_of : (k n at : ℕ) (xs : List ℕ) → bytes_high_first k n ≡ take k (take (length xs - at) (drop at xs)) → take k (drop at xs) ≡ bytes_high_first k n
front_of k n at xs front = sym (front ∙ ap (take k) (tail_of xs at))

-- and what follows them
split_at : (k n at : ℕ) (xs : List ℕ) → bytes_high_first k n ≡ take k (take (length xs - at) (drop at xs)) → drop at xs ≡ bytes_high_first k n ++ drop (at + k) xs
split_at k n at xs front = sym (take-append-drop k (drop at xs)) ∙ ap₂ (λ ys zs. ys ++ zs) (front_of k n at xs front) (drop-drop k at xs)

-- where two strings of bytes begin with the same, they compare as the numbers that k bytes behind a part of it are, and where these are equal as what follows
pub front_first : (k m n j at : ℕ) (xs ys : List ℕ) → j ≤ at → take at xs ≡ take at ys → m < 256 ^ k → n < 256 ^ k → bytes_high_first k m ≡ take k (take (length xs - j) (drop j xs)) → bytes_high_first k n ≡ take k (take (length ys - j) (drop j ys)) → text_cmp xs ys ≡ ordering_then (nat_cmp m n) (text_cmp (drop (j + k) xs) (drop (j + k) ys))
front_first k m n j at xs ys within same fits_m fits_n front_m front_n =
    sym (same_first j at xs ys within same) ∙ ap₂ text_cmp (split_at k m j xs front_m) (split_at k n j ys front_n)
    ∙ level_bytes k m n (drop (j + k) xs) (drop (j + k) ys) (div-eq_of_lt fits_m ∙ sym (div-eq_of_lt fits_n))

-- with such bytes more, and the numbers equal, the same stands in front
pub front_grows : (k m n at : ℕ) (xs ys : List ℕ) → m ≡ n → bytes_high_first k m ≡ take k (take (length xs - at) (drop at xs)) → bytes_high_first k n ≡ take k (take (length ys - at) (drop at ys)) → take at xs ≡ take at ys → take (at + k) xs ≡ take (at + k) ys
front_grows k m n at xs ys level front_m front_n same =
    take-add at k xs ∙ ap₂ (λ zs us. zs ++ us) same (front_of k m at xs front_m ∙ ap (bytes_high_first k) level ∙ sym (front_of k n at ys front_n)) ∙ sym (take-add at k ys)

-- where one of two strings of bytes ends, the shorter comes first
pub shorter_first : (xs ys : List ℕ) (at : ℕ) → at ≡ min (length xs) (length ys) → text_cmp (drop at xs) (drop at ys) ≡ nat_cmp (length xs) (length ys)
shorter_first xs ys at end = elim (cases_lt (length xs) (length ys)) [
  | inl low ↦ ap₂ text_cmp (drop_of_length-le xs (omega arith)) (drop-cons ys at 0 (omega arith)) ∙ sym (cmp_less (length xs) (length ys) low)
  | inr high ↦ elim (cases_lt (length ys) (length xs)) [
    | inl below ↦ ap₂ text_cmp (drop-cons xs at 0 (omega arith)) (drop_of_length-le ys (omega arith)) ∙ sym (cmp_greater (length xs) (length ys) below)
    | inr same ↦ ap₂ text_cmp (drop_of_length-le xs (omega arith)) (drop_of_length-le ys (omega arith)) ∙ sym (cmp_equal (length xs) (length ys) (omega arith))
  ]
]
