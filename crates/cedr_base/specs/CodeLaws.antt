-- Codes of fields compare as the fields do.
use Rattle.std.proofs.Common.{◌≡◌, ℕ, zero, suc, ◌+◌, ◌-◌, ◌*◌, ◌/◌, ◌%◌, ◌^◌, ◌<◌, ◌≤◌, inl, inr, List, [], ◌∷◌, ◌++◌, Bool, true, false, cond, ltb, ltb-true, ltb-false, refl, ap, sym, ◌∙◌, subst, ap₂, arith, append_assoc, div-one, div-add-mod', div-mul-le_self, le_trans, pow-suc, suc-mul, ℤ, pos, negsuc, ◌<ℤ◌, FitsSigned}
use Rattle.std.specs.declared.cmp.Ordering.{Ordering}
use Rattle.std.specs.declared.cmp.Ordering.TheVariants.{Less, Equal, Greater}
use Rattle.std.specs.Ordering.{ordering_then, nat_cmp, int_cmp}
use Rattle.std.specs.Cmp.{nat_cmp_is, int_cmp_is}
use Rattle.std.specs.Int.{w128, cast_unsigned, bytes_high_first, byte_at}
use Rattle.std.proofs.lemmas.Bool.{cases_lt}
use Rattle.std.proofs.lemmas.Cmp.{nat_list_cmp_total, tied_itself}
use Rattle.std.proofs.lemmas.List.Elements.{All-head, All-tail}
use Rattle.std.proofs.lemmas.Map.Lookups.{exact_bytes}
use Rattle.cedr_base.specs.OrderLaws.{both_equal, exact_lists, exact_fields}
use Rattle.std.proofs.lemmas.Int.{ints}
use Rattle.std.proofs.lemmas.Nat.{div-mul-add, pow-add, le-div}
use Rattle.std.proofs.Math.Nat.{one-le-pow, div-div-eq-div-mul, div-eq_of_lt}
use Rattle.cedr_base.specs.declared.field.Field.{Field}
use Rattle.cedr_base.specs.declared.field.Field.TheVariants.{Number, Bytes}
use Rattle.cedr_base.specs.Order.{text_cmp, field_cmp, payload_cmp}
use Rattle.cedr_base.specs.FieldCodes.{byte_width, number_tag, number_code, escaped_byte, escaped, field_code, payload_code, FitsField, FitFields}

-- how two numbers compare where one is known to be less, equal or greater
pub cmp_less : (a b : ℕ) → a < b → nat_cmp a b ≡ Less
cmp_less a b h = sym (nat_cmp_is a b Less h)

pub cmp_equal : (a b : ℕ) → a ≡ b → nat_cmp a b ≡ Equal
cmp_equal a b h = sym (nat_cmp_is a b Equal h)

pub cmp_greater : (a b : ℕ) → b < a → nat_cmp a b ≡ Greater
cmp_greater a b h = sym (nat_cmp_is a b Greater h)

-- three comparisons one after the other
then_assoc : (o p q : Ordering) → ordering_then (ordering_then o p) q ≡ ordering_then o (ordering_then p q)
then_assoc Less p q = refl
then_assoc Equal p q = refl
then_assoc Greater p q = refl

-- where a first byte decides as o does, and what follows equal ones does so too
by_first : (p q : ℕ) (o rest after : Ordering) → (p < q → o ≡ Less) → (q < p → o ≡ Greater) → (p ≡ q → rest ≡ ordering_then o after) → ordering_then (nat_cmp p q) rest ≡ ordering_then o after
by_first p q o rest after less greater equal = elim (cases_lt p q) [
  | inl low ↦ rw (cmp_less p q low, less low)
  | inr high ↦ elim (cases_lt q p) [
    | inl below ↦ rw (cmp_greater p q below, greater below)
    | inr same ↦
        let level : p ≡ q = omega arith in
        rw (cmp_equal p q level) (equal level)
  ]
]

-- ---- texts

-- one more on both sides
one_more : (a b : ℕ) → nat_cmp (a + 1) (b + 1) ≡ nat_cmp a b
one_more a b = elim (cases_lt a b) [
  | inl low ↦ cmp_less (a + 1) (b + 1) (omega arith) ∙ sym (cmp_less a b low)
  | inr high ↦ elim (cases_lt b a) [
    | inl below ↦ cmp_greater (a + 1) (b + 1) (omega arith) ∙ sym (cmp_greater a b below)
    | inr same ↦ cmp_equal (a + 1) (b + 1) (omega arith) ∙ sym (cmp_equal a b (omega arith))
  ]
]

-- escaped bytes compare as the bytes, and where these are equal as what follows
escaped_pair : (a b : ℕ) (p q : Bool) (r s : List ℕ) → ltb a 2 ≡ p → ltb b 2 ≡ q → text_cmp (cond p (1 ∷ (a + 1) ∷ []) (a ∷ []) ++ r) (cond q (1 ∷ (b + 1) ∷ []) (b ∷ []) ++ s) ≡ ordering_then (nat_cmp a b) (text_cmp r s)
escaped_pair a b true true r s small low = ap (λ o. ordering_then o (text_cmp r s)) (one_more a b)
escaped_pair a b true false r s small high =
    let first = cmp_less 1 b (omega (arith, ltb-false b 2 high)) in
    let both = cmp_less a b (omega (arith, ltb-true a 2 small, ltb-false b 2 high)) in
    rw (first, both)
escaped_pair a b false true r s large low =
    let first = cmp_greater a 1 (omega (arith, ltb-false a 2 large)) in
    let both = cmp_greater a b (omega (arith, ltb-true b 2 low, ltb-false a 2 large)) in
    rw (first, both)
escaped_pair a b false false r s large high = refl

-- the end of a text comes before each of its bytes
end_first : (b : ℕ) (q : Bool) (r s : List ℕ) → ltb b 2 ≡ q → text_cmp (0 ∷ r) (cond q (1 ∷ (b + 1) ∷ []) (b ∷ []) ++ s) ≡ Less
end_first b true r s low = refl
end_first b false r s high = rw (cmp_less 0 b (omega (arith, ltb-false b 2 high)))

-- and each of its bytes after the end
end_last : (a : ℕ) (p : Bool) (r s : List ℕ) → ltb a 2 ≡ p → text_cmp (cond p (1 ∷ (a + 1) ∷ []) (a ∷ []) ++ r) (0 ∷ s) ≡ Greater
end_last a true r s low = refl
end_last a false r s high = rw (cmp_greater a 0 (omega (arith, ltb-false a 2 high)))

-- escaped texts with their ends compare as the texts, and where these are equal as what follows
pub escaped_order : (s t r u : List ℕ) → text_cmp (escaped s ++ 0 ∷ r) (escaped t ++ 0 ∷ u) ≡ ordering_then (text_cmp s t) (text_cmp r u)
escaped_order [] [] r u = refl
escaped_order [] (b ∷ t) r u = rw (append_assoc (escaped_byte b) (escaped t) (0 ∷ u)) (end_first b (ltb b 2) r (escaped t ++ 0 ∷ u) refl)
escaped_order (a ∷ s) [] r u = rw (append_assoc (escaped_byte a) (escaped s) (0 ∷ r)) (end_last a (ltb a 2) (escaped s ++ 0 ∷ r) u refl)
escaped_order (a ∷ s) (b ∷ t) r u =
    rw (append_assoc (escaped_byte a) (escaped s) (0 ∷ r), append_assoc (escaped_byte b) (escaped t) (0 ∷ u))
    (escaped_pair a b (ltb a 2) (ltb b 2) (escaped s ++ 0 ∷ r) (escaped t ++ 0 ∷ u) refl refl
    ∙ ap (ordering_then (nat_cmp a b)) (escaped_order s t r u) ∙ sym (then_assoc (nat_cmp a b) (text_cmp s t) (text_cmp r u)))

-- ---- numbers

-- a power of 256 is positive
pub pow_256_pos : (k : ℕ) → 0 < 256 ^ k
pow_256_pos k = one-le-pow k 256 (omega arith)

-- a byte as a quotient and a remainder
pub byte_is : (k n : ℕ) → byte_at k n ≡ n / 256 ^ k % 256
byte_is zero n = ap (λ x. x % 256) (sym (div-one n))
byte_is (suc k) n = refl

-- the lowest byte of what stands above k bytes
pub byte_splits : (k n : ℕ) → n / 256 ^ k ≡ n / 256 ^ suc k * 256 + byte_at k n
byte_splits k n =
    let above : n / 256 ^ k / 256 ≡ n / 256 ^ suc k = div-div-eq-div-mul n (256 ^ k) 256 ∙ ap (λ p. n / p) (sym (pow-suc 256 k)) in
    sym (ap₂ (λ q r. q * 256 + r) (sym above) (byte_is k n) ∙ div-add-mod' (n / 256 ^ k) 256)

-- what a lesser quotient says
lesser_quotient : (p m n : ℕ) → 0 < p → m / p < n / p → m < n
lesser_quotient p m n some low = elim (cases_lt m n) [
  | inl less ↦ less
  | inr high ↦
      let back : n / p ≤ m / p = le-div (n / p) m p some (le_trans (div-mul-le_self n p) high) in
      absurd (omega arith)
]

-- where the bytes above the lowest k are the same, those k compare as the numbers do
pub level_bytes : (k m n : ℕ) (r s : List ℕ) → m / 256 ^ k ≡ n / 256 ^ k → text_cmp (bytes_high_first k m ++ r) (bytes_high_first k n ++ s) ≡ ordering_then (nat_cmp m n) (text_cmp r s)
level_bytes zero m n r s h =
    let level : m ≡ n = sym (div-one m) ∙ h ∙ div-one n in
    rw (cmp_equal m n level)
level_bytes (suc k) m n r s h =
    by_first (byte_at k m) (byte_at k n) (nat_cmp m n) (text_cmp (bytes_high_first k m ++ r) (bytes_high_first k n ++ s)) (text_cmp r s)
    (λ low. cmp_less m n (lesser_quotient (256 ^ k) m n (pow_256_pos k) (omega (arith, byte_splits k m, byte_splits k n, h))))
    (λ high. cmp_greater m n (lesser_quotient (256 ^ k) n m (pow_256_pos k) (omega (arith, byte_splits k m, byte_splits k n, h))))
    (λ same. level_bytes k m n r s (omega (arith, byte_splits k m, byte_splits k n, h)))

-- one step of `width_le`
width_le_at : (k n : ℕ) (b : Bool) (w : ℕ) → w ≤ k → cond b w (suc k) ≤ suc k
width_le_at k n true w h = omega arith
width_le_at k n false w h = omega arith

-- a width is within its bound
pub width_le : (k n : ℕ) → byte_width k n ≤ k
unfolding byte_width
width_le zero n = omega arith
width_le (suc k) n = width_le_at k n (ltb n (256 ^ k)) (byte_width k n) (width_le k n)

-- one step of `width_holds`
width_holds_at : (k n : ℕ) (b : Bool) → ltb n (256 ^ k) ≡ b → n < 256 ^ suc k → (n < 256 ^ k → n < 256 ^ byte_width k n) → n < 256 ^ cond b (byte_width k n) (suc k)
width_holds_at k n true test fits below = below (ltb-true n (256 ^ k) test)
width_holds_at k n false test fits below = fits

-- a number fits in its width
pub width_holds : (k n : ℕ) → n < 256 ^ k → n < 256 ^ byte_width k n
unfolding byte_width
width_holds zero n fits = fits
width_holds (suc k) n fits = width_holds_at k n (ltb n (256 ^ k)) refl fits (width_holds k n)

-- one step of `width_up`
width_up_at : (k m n : ℕ) (p q : Bool) → ltb m (256 ^ k) ≡ p → ltb n (256 ^ k) ≡ q → m ≤ n → byte_width k m ≤ byte_width k n → byte_width k m ≤ k → cond p (byte_width k m) (suc k) ≤ cond q (byte_width k n) (suc k)
width_up_at k m n true true low lesser h below within = below
width_up_at k m n true false low lesser h below within = omega arith
width_up_at k m n false true low lesser h below within = absurd (omega (arith, ltb-false m (256 ^ k) low, ltb-true n (256 ^ k) lesser))
width_up_at k m n false false low lesser h below within = omega arith

-- a greater number is no narrower
pub width_up : (k m n : ℕ) → m ≤ n → byte_width k m ≤ byte_width k n
unfolding byte_width
width_up zero m n h = omega arith
width_up (suc k) m n h = width_up_at k m n (ltb m (256 ^ k)) (ltb n (256 ^ k)) refl refl h (width_up k m n h) (width_le k m)

-- a narrower number is less
narrower : (k m n : ℕ) → byte_width k m < byte_width k n → m < n
narrower k m n low = elim (cases_lt m n) [
  | inl less ↦ less
  | inr high ↦ absurd (omega (arith, width_up k n m high))
]

-- numbers from 0 on compare as naturals
int_cmp_pos : (m n : ℕ) → int_cmp (pos m) (pos n) ≡ nat_cmp m n
int_cmp_pos m n = elim (cases_lt m n) [
  | inl low ↦
      let less : pos m <ℤ pos n = omega (arith, ints) in
      sym (int_cmp_is (pos m) (pos n) Less less) ∙ sym (cmp_less m n low)
  | inr high ↦ elim (cases_lt n m) [
    | inl below ↦
        let greater : pos n <ℤ pos m = omega (arith, ints) in
        sym (int_cmp_is (pos m) (pos n) Greater greater) ∙ sym (cmp_greater m n below)
    | inr same ↦
        let level : m ≡ n = omega arith in
        sym (int_cmp_is (pos m) (pos n) Equal (ap pos level)) ∙ sym (cmp_equal m n level)
  ]
]

-- and negative ones the other way round
int_cmp_negsuc : (m n : ℕ) → int_cmp (negsuc m) (negsuc n) ≡ nat_cmp n m
int_cmp_negsuc m n = elim (cases_lt n m) [
  | inl low ↦
      let less : negsuc m <ℤ negsuc n = omega (arith, ints) in
      sym (int_cmp_is (negsuc m) (negsuc n) Less less) ∙ sym (cmp_less n m low)
  | inr high ↦ elim (cases_lt m n) [
    | inl below ↦
        let greater : negsuc n <ℤ negsuc m = omega (arith, ints) in
        sym (int_cmp_is (negsuc m) (negsuc n) Greater greater) ∙ sym (cmp_greater n m below)
    | inr same ↦
        let level : m ≡ n = omega arith in
        sym (int_cmp_is (negsuc m) (negsuc n) Equal (ap negsuc level)) ∙ sym (cmp_equal n m (sym level))
  ]
]

-- the order of nonnegative numbers' codes
pos_order : (m n : ℕ) (r s : List ℕ) → m < 256 ^ 16 → n < 256 ^ 16 → text_cmp (number_code (pos m) ++ r) (number_code (pos n) ++ s) ≡ ordering_then (nat_cmp m n) (text_cmp r s)
pos_order m n r s fits_m fits_n =
    by_first (32 + byte_width 16 m) (32 + byte_width 16 n) (nat_cmp m n) (text_cmp (bytes_high_first (byte_width 16 m) m ++ r) (bytes_high_first (byte_width 16 n) n ++ s)) (text_cmp r s)
    (λ low. cmp_less m n (narrower 16 m n (omega arith)))
    (λ high. cmp_greater m n (narrower 16 n m (omega arith)))
    (λ same.
    let level : byte_width 16 m ≡ byte_width 16 n = omega arith in
    let m_below : m < 256 ^ byte_width 16 n = subst (λ w. m < 256 ^ w) level (width_holds 16 m fits_m) in
    let bytes = level_bytes (byte_width 16 n) m n r s (div-eq_of_lt m_below ∙ sym (div-eq_of_lt (width_holds 16 n fits_n))) in
    subst (λ w. text_cmp (bytes_high_first w m ++ r) (bytes_high_first (byte_width 16 n) n ++ s) ≡ ordering_then (nat_cmp m n) (text_cmp r s)) (sym level) bytes)

-- what stands above k bytes of a negative number's bits: ones alone
ones_above : (q p m : ℕ) → 0 < q → m < p → (q * p - suc m) / p ≡ q - 1
ones_above (suc q) p m some fits =
    let split : suc q * p - suc m ≡ q * p + (p - suc m) = omega (arith, suc-mul q p) in
    let less : suc q - 1 ≡ q = omega arith in
    ap (λ x. x / p) split ∙ div-mul-add q p (p - suc m) (omega arith) ∙ sym less
ones_above zero p m some fits = absurd (omega arith)

-- the 16 bytes above and below the lowest k
pub power_cut : (k : ℕ) → k ≤ 16 → 2 ^ 128 ≡ 256 ^ (16 - k) * 256 ^ k
power_cut k within =
    let whole : 16 ≡ 16 - k + k = omega arith in
    ap (λ e. 256 ^ e) whole ∙ pow-add 256 (16 - k) k

-- what stands above the bytes of a negative number's code
negative_top : (k m : ℕ) → k ≤ 16 → m < 256 ^ k → cast_unsigned w128 (negsuc m) / 256 ^ k ≡ 256 ^ (16 - k) - 1
negative_top k m within fits = ap (λ t. (t - suc m) / 256 ^ k) (power_cut k within) ∙ ones_above (256 ^ (16 - k)) (256 ^ k) m (pow_256_pos (16 - k)) fits

-- the bits of negative numbers compare as the complements turned round
bits_turned : (m n : ℕ) → m < 2 ^ 128 → n < 2 ^ 128 → nat_cmp (2 ^ 128 - suc m) (2 ^ 128 - suc n) ≡ nat_cmp n m
bits_turned m n fits_m fits_n = elim (cases_lt n m) [
  | inl low ↦ cmp_less (2 ^ 128 - suc m) (2 ^ 128 - suc n) (omega arith) ∙ sym (cmp_less n m low)
  | inr high ↦ elim (cases_lt m n) [
    | inl below ↦ cmp_greater (2 ^ 128 - suc m) (2 ^ 128 - suc n) (omega arith) ∙ sym (cmp_greater n m below)
    | inr same ↦ cmp_equal (2 ^ 128 - suc m) (2 ^ 128 - suc n) (omega arith) ∙ sym (cmp_equal n m (omega arith))
  ]
]

-- the order of negative numbers' codes
negsuc_order : (m n : ℕ) (r s : List ℕ) → m < 256 ^ 16 → n < 256 ^ 16 → text_cmp (number_code (negsuc m) ++ r) (number_code (negsuc n) ++ s) ≡ ordering_then (nat_cmp n m) (text_cmp r s)
negsuc_order m n r s fits_m fits_n =
    by_first (31 - byte_width 16 m) (31 - byte_width 16 n) (nat_cmp n m) (text_cmp (bytes_high_first (byte_width 16 m) (cast_unsigned w128 (negsuc m)) ++ r) (bytes_high_first (byte_width 16 n) (cast_unsigned w128 (negsuc n)) ++ s)) (text_cmp r s)
    (λ low. cmp_less n m (narrower 16 n m (omega arith)))
    (λ high. cmp_greater n m (narrower 16 m n (omega (arith, width_le 16 m, width_le 16 n))))
    (λ same.
    let level : byte_width 16 m ≡ byte_width 16 n = omega (arith, width_le 16 m, width_le 16 n) in
    let m_below : m < 256 ^ byte_width 16 n = subst (λ w. m < 256 ^ w) level (width_holds 16 m fits_m) in
    let tops = negative_top (byte_width 16 n) m (width_le 16 n) m_below ∙ sym (negative_top (byte_width 16 n) n (width_le 16 n) (width_holds 16 n fits_n)) in
    let bytes = level_bytes (byte_width 16 n) (cast_unsigned w128 (negsuc m)) (cast_unsigned w128 (negsuc n)) r s tops in
    let turned = bytes ∙ ap (λ o. ordering_then o (text_cmp r s)) (bits_turned m n fits_m fits_n) in
    subst (λ w. text_cmp (bytes_high_first w (cast_unsigned w128 (negsuc m)) ++ r) (bytes_high_first (byte_width 16 n) (cast_unsigned w128 (negsuc n)) ++ s) ≡ ordering_then (nat_cmp n m) (text_cmp r s)) (sym level) turned)

-- codes of numbers compare as the numbers, and where these are equal as what follows
number_order : (m n : ℤ) (r s : List ℕ) → FitsSigned w128 m → FitsSigned w128 n → text_cmp (number_code m ++ r) (number_code n ++ s) ≡ ordering_then (int_cmp m n) (text_cmp r s)
number_order (pos m) (pos n) r s fits_m fits_n =
    pos_order m n r s (omega (arith, fits_m.sfits)) (omega (arith, fits_n.sfits)) ∙ ap (λ o. ordering_then o (text_cmp r s)) (sym (int_cmp_pos m n))
number_order (pos m) (negsuc n) r s fits_m fits_n =
    rw (cmp_greater (32 + byte_width 16 m) (31 - byte_width 16 n) (omega arith))
number_order (negsuc m) (pos n) r s fits_m fits_n =
    rw (cmp_less (31 - byte_width 16 m) (32 + byte_width 16 n) (omega arith))
number_order (negsuc m) (negsuc n) r s fits_m fits_n =
    negsuc_order m n r s (omega (arith, fits_m.sfits)) (omega (arith, fits_n.sfits)) ∙ ap (λ o. ordering_then o (text_cmp r s)) (sym (int_cmp_negsuc m n))

-- a number's tag is below a text's
pub tag_low : (n : ℤ) → number_tag n < 64
tag_low (pos n) = omega (arith, width_le 16 n)
tag_low (negsuc n) = omega arith

-- ---- fields

-- codes of fields compare as the fields, and where these are equal as what follows
pub field_order : (f g : Field) (r s : List ℕ) → FitsField f → FitsField g → text_cmp (field_code f ++ r) (field_code g ++ s) ≡ ordering_then (field_cmp f g) (text_cmp r s)
field_order (Number m) (Number n) r s fits_m fits_n = number_order m n r s fits_m fits_n
field_order (Number m) (Bytes t) r s fits_m fits_t = rw (cmp_less (number_tag m) 64 (tag_low m))
field_order (Bytes t) (Number n) r s fits_t fits_n = rw (cmp_greater 64 (number_tag n) (tag_low n))
field_order (Bytes t) (Bytes u) r s fits_t fits_u = rw (append_assoc (escaped t) (0 ∷ []) r, append_assoc (escaped u) (0 ∷ []) s) (escaped_order t u r s)

-- ---- payloads

-- no field comes before a field
nothing_first : (f : Field) (r : List ℕ) → text_cmp [] (field_code f ++ r) ≡ Less
nothing_first (Number n) r = refl
nothing_first (Bytes t) r = refl

-- and a field after none
nothing_last : (f : Field) (r : List ℕ) → text_cmp (field_code f ++ r) [] ≡ Greater
nothing_last (Number n) r = refl
nothing_last (Bytes t) r = refl

-- codes of payloads compare as the payloads
pub code_order : (a b : List Field) → FitFields a → FitFields b → text_cmp (payload_code a) (payload_code b) ≡ payload_cmp a b
code_order [] [] fits_a fits_b = refl
code_order [] (g ∷ gs) fits_a fits_b = nothing_first g (payload_code gs)
code_order (f ∷ fs) [] fits_a fits_b = nothing_last f (payload_code fs)
code_order (f ∷ fs) (g ∷ gs) fits_a fits_b =
    field_order f g (payload_code fs) (payload_code gs) (All-head FitsField f fs fits_a) (All-head FitsField g gs fits_b) ∙ ap (ordering_then (field_cmp f g)) (code_order fs gs (All-tail FitsField f fs fits_a) (All-tail FitsField g gs fits_b))

-- equal codes compare as equal
same_code : (xs ys : List ℕ) → xs ≡ ys → text_cmp xs ys ≡ Equal
same_code xs ys same = ap (text_cmp xs) (sym same) ∙ tied_itself nat_list_cmp_total xs

-- no two payloads have one code
pub code_exact : (a b : List Field) → FitFields a → FitFields b → payload_code a ≡ payload_code b → a ≡ b
code_exact a b fits_a fits_b same = exact_lists field_cmp exact_fields a b (sym (code_order a b fits_a fits_b) ∙ same_code (payload_code a) (payload_code b) same)

-- no field's code begins another's
pub code_prefix_free : (f g : Field) (r s : List ℕ) → FitsField f → FitsField g → field_code f ++ r ≡ field_code g ++ s → (f ≡ g) × (r ≡ s)
code_prefix_free f g r s fits_f fits_g same =
    let both = both_equal (field_cmp f g) (text_cmp r s) (sym (field_order f g r s fits_f fits_g) ∙ same_code (field_code f ++ r) (field_code g ++ s) same) in
    (exact_fields f g both.0, exact_bytes r s both.1)

-- the code of two payloads one after the other
pub code_joined : (a b : List Field) → payload_code (a ++ b) ≡ payload_code a ++ payload_code b
code_joined [] b = refl
code_joined (f ∷ fs) b = ap (λ xs. field_code f ++ xs) (code_joined fs b) ∙ sym (append_assoc (field_code f) (payload_code fs) (payload_code b))
