-- What is read back from a field's code.
use Rattle.std.proofs.Common.{◌≡◌, ℕ, zero, suc, ◌+◌, ◌-◌, ◌*◌, ◌/◌, ◌%◌, ◌^◌, ◌<◌, ◌≤◌, ◌≢◌, min, inl, inr, List, [], ◌∷◌, ◌++◌, Bool, true, false, cond, length, take, drop, get_or, eqb, ltb, ltb-false, eq-eqb, ne_eqb, refl, ap, ap₂, sym, ◌∙◌, subst, arith, append_assoc, append-nil, length-append, take_at, FitsSigned, int_lt, le-ltb, lt-ltb, drop-cons, drop_of_length-le, one-add, div-one, div-add-mod', mod-lt, add-mul, suc-mul, lt_of_mul-lt-mul_right, lt_of_le_of_lt, pow-suc, ℤ, pos, negsuc}
use Rattle.std.specs.Int.{w128, cast_unsigned, bytes_high_first, byte_at}
use Rattle.std.specs.List.{position_or_len}
use Rattle.std.proofs.lemmas.List.Sums.{position_or_len_is}
use Rattle.std.proofs.lemmas.Bool.{cases_lt}
use Rattle.std.proofs.lemmas.Nat.{div-mul-add}
use Rattle.cedr_base.specs.declared.field.Field.{Field}
use Rattle.cedr_base.specs.declared.field.Field.TheVariants.{Number, Bytes}
use Rattle.cedr_base.specs.FieldCodes.{byte_width, number_size, number_tag, number_width, number_code, field_code, escaped_byte, escaped, text_code, unescaped}
use Rattle.cedr_base.specs.CodeLaws.{pow_256_pos, byte_is, byte_splits, power_cut, width_le, width_holds, tag_low}
use Rattle.cedr_base.proofs.FieldBytes.{bigger_power, tail_of, long_as_asked}

-- ---- the end of a text

-- the place of the first 0
first_zero : List ℕ → ℕ
first_zero xs = position_or_len (λ b. eqb b 0) xs

-- no 0 at the front
zero_later : (x : ℕ) (xs : List ℕ) → (x ≢ 0) → first_zero (x ∷ xs) ≡ suc (first_zero xs)
unfolding first_zero
zero_later x xs other = rw (ne_eqb x 0 other) (one-add (position_or_len (λ b. eqb b 0) xs))

-- an escaped byte has no 0
zero_after_byte : (b : ℕ) (p : Bool) (xs : List ℕ) → ltb b 2 ≡ p → first_zero (cond p (1 ∷ (b + 1) ∷ []) (b ∷ []) ++ xs) ≡ length (cond p (1 ∷ (b + 1) ∷ []) (b ∷ [])) + first_zero xs
zero_after_byte b true xs low =
    zero_later 1 ((b + 1) ∷ xs) (λ e. omega arith) ∙ ap suc (zero_later (b + 1) xs (λ e. omega arith)) ∙ omega arith
zero_after_byte b false xs high = zero_later b xs (λ e. omega (arith, ltb-false b 2 high)) ∙ omega arith

-- the first 0 behind an escaped text is its end
zero_of_text : (t r : List ℕ) → first_zero (escaped t ++ 0 ∷ r) ≡ length (escaped t)
unfolding first_zero
zero_of_text [] r = refl
zero_of_text (b ∷ t) r =
    ap first_zero (append_assoc (escaped_byte b) (escaped t) (0 ∷ r)) ∙ zero_after_byte b (ltb b 2) (escaped t ++ 0 ∷ r) refl
    ∙ ap (λ n. length (escaped_byte b) + n) (zero_of_text t r) ∙ sym (length-append (escaped_byte b) (escaped t))

-- what `zero_place` answers
place_is_first : (xs : List ℕ) (z : ℕ) → z ≤ length xs → ((k : ℕ) → k < z → (get_or xs k 0 ≢ 0)) → (z < length xs → get_or xs z 0 ≡ 0) → first_zero xs ≡ z
unfolding first_zero
place_is_first xs z within before found =
    position_or_len_is (λ b. eqb b 0) xs z 0 within (λ k low. ne_eqb (get_or xs k 0) 0 (before k low)) (λ inside. eq-eqb (get_or xs z 0) 0 (found inside))

-- the first 0 of a text's code is its last byte
pub end_of_text : (bytes text rest : List ℕ) (z : ℕ) → z ≤ length bytes → ((k : ℕ) → k < z → (get_or bytes k 0 ≢ 0)) → (z < length bytes → get_or bytes z 0 ≡ 0) → bytes ≡ text_code text ++ rest → (z + 1 ≡ length (text_code text)) × (z < length bytes)
end_of_text bytes text rest z within before found begins =
    let split : bytes ≡ 64 ∷ (escaped text ++ 0 ∷ rest) = begins ∙ ap (λ xs. 64 ∷ xs) (append_assoc (escaped text) (0 ∷ []) rest) in
    let place : z ≡ suc (length (escaped text)) = sym (place_is_first bytes z within before found) ∙ ap first_zero split ∙ zero_later 64 (escaped text ++ 0 ∷ rest) (λ e. omega arith) ∙ ap suc (zero_of_text text rest) in
    let long = ap length split in
    (omega (arith, place, length-append (escaped text) (0 ∷ [])), omega (arith, place, long, length-append (escaped text) (0 ∷ rest)))

-- ---- the bytes of a number

-- a byte by its place
byte_by_place : (k n i : ℕ) → i < k → get_or (bytes_high_first k n) i 0 ≡ byte_at (k - suc i) n
byte_by_place zero n i low = absurd (omega arith)
byte_by_place (suc k) n zero low = ap (λ j. byte_at j n) (omega arith)
byte_by_place (suc k) n (suc i) low = byte_by_place k n i (omega arith) ∙ ap (λ j. byte_at j n) (omega arith)

-- the lowest byte of a complement
complement_mod : (q a : ℕ) → a < q * 256 → (q * 256 - suc a) % 256 ≡ 255 - a % 256
complement_mod q a low = omega arith

-- a quotient of a complement
complement_quotient : (q p n : ℕ) → 0 < p → n < q * p → ((q * p - suc n) / p ≡ q - suc (n / p)) × (n / p < q)
complement_quotient q p n some fits =
    let parts : n / p * p + n % p ≡ n = div-add-mod' n p in
    let below : n % p < p = mod-lt n some in
    let low : n / p < q = lt_of_mul-lt-mul_right p (lt_of_le_of_lt (omega (arith, parts)) fits) in
    let whole : q ≡ suc (n / p) + (q - suc (n / p)) = omega arith in
    let spread : q * p ≡ suc (n / p) * p + (q - suc (n / p)) * p = ap (λ x. x * p) whole ∙ add-mul (suc (n / p)) (q - suc (n / p)) p in
    let split : q * p - suc n ≡ (q - suc (n / p)) * p + (p - suc (n % p)) = omega (arith, spread, suc-mul (n / p) p, parts, below) in
    (ap (λ x. x / p) split ∙ div-mul-add (q - suc (n / p)) p (p - suc (n % p)) (omega (arith, below)), low)

-- the bytes of a complement
complement_byte : (j n : ℕ) → j < 16 → n < 2 ^ 128 → byte_at j (2 ^ 128 - suc n) ≡ 255 - byte_at j n
complement_byte j n low fits =
    let cut : 2 ^ 128 ≡ 256 ^ (16 - j) * 256 ^ j = power_cut j (omega arith) in
    let quotient = complement_quotient (256 ^ (16 - j)) (256 ^ j) n (pow_256_pos j) (subst (λ x. n < x) cut fits) in
    let last : 16 - j ≡ suc (15 - j) = omega arith in
    let byte : 256 ^ (16 - j) ≡ 256 ^ (15 - j) * 256 = ap (λ e. 256 ^ e) last ∙ pow-suc 256 (15 - j) in
    let turned : (2 ^ 128 - suc n) / 256 ^ j ≡ 256 ^ (15 - j) * 256 - suc (n / 256 ^ j) = ap (λ t. (t - suc n) / 256 ^ j) cut ∙ quotient.0 ∙ ap (λ t. t - suc (n / 256 ^ j)) byte in
    byte_is j (2 ^ 128 - suc n) ∙ ap (λ x. x % 256) turned ∙ complement_mod (256 ^ (15 - j)) (n / 256 ^ j) (subst (λ x. n / 256 ^ j < x) byte quotient.1) ∙ ap (λ x. 255 - x) (sym (byte_is j n))

-- a byte is below 256
byte_is_low : (j n : ℕ) → byte_at j n < 256
byte_is_low j n = subst (λ x. x < 256) (sym (byte_is j n)) (mod-lt (n / 256 ^ j) (omega arith))

-- the digit of a size, from the number's byte
digit_is : (negative : Bool) (j n : ℕ) → j < 16 → n < 2 ^ 128 → cond negative (255 - byte_at j (cond negative (2 ^ 128 - suc n) n)) (byte_at j (cond negative (2 ^ 128 - suc n) n)) ≡ byte_at j n
digit_is true j n low fits = omega (arith, complement_byte j n low fits, byte_is_low j n)
digit_is false j n low fits = refl

-- one turn of `read_size`
pub size_step : (negative : Bool) (bytes : List ℕ) (size i digit k n : ℕ) → length bytes ≤ 16 → i < length bytes → digit ≡ cond negative (255 - get_or bytes i 0) (get_or bytes i 0) → n < 256 ^ k → bytes ≡ bytes_high_first k (cond negative (2 ^ 128 - suc n) n) → size ≡ n / 256 ^ (k - i) → size * 256 + digit ≡ n / 256 ^ (k - (i + 1))
size_step negative bytes size i digit k n short inside digit_was fits is so_far =
    let long : length bytes ≡ k = ap length is ∙ long_as_asked k (cond negative (2 ^ 128 - suc n) n) in
    let here : get_or bytes i 0 ≡ byte_at (k - suc i) (cond negative (2 ^ 128 - suc n) n) = ap (λ xs. get_or xs i 0) is ∙ byte_by_place k (cond negative (2 ^ 128 - suc n) n) i (omega arith) in
    let room : 256 ^ k ≤ 256 ^ 16 = bigger_power k 16 (omega arith) in
    let byte : digit ≡ byte_at (k - suc i) n = digit_was ∙ ap (λ x. cond negative (255 - x) x) here ∙ digit_is negative (k - suc i) n (omega arith) (omega (arith, room)) in
    let above : k - i ≡ suc (k - suc i) = omega arith in
    let higher : size ≡ n / 256 ^ suc (k - suc i) = so_far ∙ ap (λ e. n / 256 ^ e) above in
    let next : k - suc i ≡ k - (i + 1) = omega arith in
    omega (arith, byte, higher, byte_splits (k - suc i) n) ∙ ap (λ e. n / 256 ^ e) next

-- a size so far has room for one more byte
pub size_fits : (size digit i : ℕ) → i < 16 → size < 256 ^ i → digit < 256 → (size * 256 + digit < 256 ^ (i + 1)) × (size * 256 + digit < 2 ^ 128)
size_fits size digit i low fits small =
    let next : 256 ^ (i + 1) ≡ 256 ^ i * 256 = ap (λ e. 256 ^ e) (omega arith) ∙ pow-suc 256 i in
    let room : 256 ^ (i + 1) ≤ 256 ^ 16 = bigger_power (i + 1) 16 (omega arith) in
    (omega (arith, next), omega (arith, next, room))

-- ---- the bytes of a text

-- a run of bytes above 1 stands as it is
pub plain_run : (xs : List ℕ) (r : ℕ) → r ≤ length xs → ((k : ℕ) → k < r → 2 ≤ get_or xs k 0) → unescaped false xs ≡ take r xs ++ unescaped false (drop r xs)
plain_run xs zero within large = refl
plain_run [] (suc r) within large = absurd (omega arith)
plain_run (x ∷ xs) (suc r) within large =
    let two : 2 ≤ x = large 0 (omega arith) in
    let not_zero = ne_eqb x 0 (λ e. omega arith) in
    let not_one = ne_eqb x 1 (λ e. omega arith) in
    rw (not_zero, not_one) (ap (λ ys. x ∷ ys) (plain_run xs r (omega arith) (λ k low. large (suc k) (omega arith))))

-- one turn of `write_unescaped`
pub unescaped_step : (out with_run new rest whole : List ℕ) (run byte : ℕ) → out ++ unescaped false rest ≡ whole → run + 1 < length rest → (get_or rest run 0 ≢ 0) → ((k : ℕ) → k < run → 2 ≤ get_or rest k 0) → (run < length rest → get_or rest run 0 < 2) → with_run ≡ out ++ take run rest → new ≡ with_run ++ byte ∷ [] → byte ≡ get_or rest (run + 1) 0 - 1 → new ++ unescaped false (take (length rest - (run + 2)) (drop (run + 2) rest)) ≡ whole
unescaped_step out with_run new rest whole run byte so_far inside other plain low a b d =
    let one : get_or rest run 0 ≡ 1 = omega (arith, other, low (omega arith)) in
    let first : drop run rest ≡ 1 ∷ drop (suc run) rest = drop-cons rest run 0 (omega arith) ∙ ap (λ x. x ∷ drop (suc run) rest) one in
    let second : drop (suc run) rest ≡ get_or rest (suc run) 0 ∷ drop (suc (suc run)) rest = drop-cons rest (suc run) 0 (omega arith) in
    let behind : run + 2 ≡ suc (suc run) = omega arith in
    let left : take (length rest - (run + 2)) (drop (run + 2) rest) ≡ drop (suc (suc run)) rest = tail_of rest (run + 2) ∙ ap (λ n. drop n rest) behind in
    let next : run + 1 ≡ suc run = omega arith in
    let written : new ≡ (out ++ take run rest) ++ (get_or rest (suc run) 0 - 1) ∷ [] = b ∙ ap₂ (λ xs x. xs ++ x ∷ []) a (d ∙ ap (λ n. get_or rest n 0 - 1) next) in
    let rest_is : unescaped false rest ≡ take run rest ++ (get_or rest (suc run) 0 - 1) ∷ unescaped false (drop (suc (suc run)) rest) =
    plain_run rest run (omega arith) plain ∙ ap (λ xs. take run rest ++ unescaped false xs) (first ∙ ap (λ xs. 1 ∷ xs) second) in
    ap₂ (λ xs ys. xs ++ unescaped false ys) written left
    ∙ append_assoc (out ++ take run rest) ((get_or rest (suc run) 0 - 1) ∷ []) (unescaped false (drop (suc (suc run)) rest))
    ∙ append_assoc out (take run rest) ((get_or rest (suc run) 0 - 1) ∷ unescaped false (drop (suc (suc run)) rest))
    ∙ ap (λ xs. out ++ xs) (sym rest_is) ∙ so_far

-- where a text ends nothing of it stands behind the run
nothing_behind : (xs : List ℕ) (run : ℕ) → run ≤ length xs → (run < length xs → get_or xs run 0 < 2) → ((run + 1 < length xs) × (get_or xs run 0 ≢ 0) → ⊥) → unescaped false (drop run xs) ≡ []
nothing_behind xs run within low last = elim (cases_lt run (length xs)) [
  | inr over ↦ ap (unescaped false) (drop_of_length-le xs over)
  | inl inside ↦ ap (unescaped false) (drop-cons xs run 0 inside) ∙ ended (get_or xs run 0) refl inside
]
  where
    ended : (x : ℕ) → get_or xs run 0 ≡ x → run < length xs → unescaped false (get_or xs run 0 ∷ drop (suc run) xs) ≡ []
    ended zero is inside = rw is
    ended (suc x) is inside =
        let one : get_or xs run 0 ≡ 1 = omega (arith, low inside) in
        let no_more : length xs ≤ suc run = elim (cases_lt (run + 1) (length xs)) [
          | inl more ↦ absurd (last (more, λ e. omega arith))
          | inr over ↦ omega arith
        ] in
        rw (one, drop_of_length-le xs no_more)

-- the last turn of `write_unescaped`
pub unescaped_end : (out with_run rest whole : List ℕ) (run : ℕ) → out ++ unescaped false rest ≡ whole → run ≤ length rest → ((k : ℕ) → k < run → 2 ≤ get_or rest k 0) → (run < length rest → get_or rest run 0 < 2) → ((run + 1 < length rest) × (get_or rest run 0 ≢ 0) → ⊥) → with_run ≡ out ++ take run rest → with_run ≡ whole
unescaped_end out with_run rest whole run so_far within plain low last a =
    let rest_is : unescaped false rest ≡ take run rest = plain_run rest run within plain ∙ ap (λ xs. take run rest ++ xs) (nothing_behind rest run within low last) ∙ append-nil (take run rest) in
    a ∙ ap (λ xs. out ++ xs) (sym rest_is) ∙ so_far

-- a byte from its escaped form
back_again : (b : ℕ) (p : Bool) (xs : List ℕ) → ltb b 2 ≡ p → unescaped false (cond p (1 ∷ (b + 1) ∷ []) (b ∷ []) ++ xs) ≡ b ∷ unescaped false xs
back_again b true xs low = ap (λ x. x ∷ unescaped false xs) (omega arith)
back_again b false xs high =
    let not_zero = ne_eqb b 0 (λ e. omega (arith, ltb-false b 2 high)) in
    let not_one = ne_eqb b 1 (λ e. omega (arith, ltb-false b 2 high)) in
    rw (not_zero, not_one)

-- a text is read back from its code
pub unescaped_text : (t r : List ℕ) → unescaped false (escaped t ++ 0 ∷ r) ≡ t
unescaped_text [] r = refl
unescaped_text (b ∷ t) r =
    ap (unescaped false) (append_assoc (escaped_byte b) (escaped t) (0 ∷ r)) ∙ back_again b (ltb b 2) (escaped t ++ 0 ∷ r) refl ∙ ap (λ xs. b ∷ xs) (unescaped_text t r)

-- what `append_text` appends
pub text_read_back : (bytes text rest : List ℕ) → bytes ≡ text_code text ++ rest → unescaped false (take (length bytes - 1) (drop 1 bytes)) ≡ text
text_read_back bytes text rest begins =
    let split : bytes ≡ 64 ∷ (escaped text ++ 0 ∷ rest) = begins ∙ ap (λ xs. 64 ∷ xs) (append_assoc (escaped text) (0 ∷ []) rest) in
    ap (unescaped false) (tail_of bytes 1 ∙ ap (drop 1) split) ∙ unescaped_text text rest

-- the end of `read_size`
pub size_end : (negative : Bool) (bytes : List ℕ) (size i k n : ℕ) → length bytes ≤ i → bytes ≡ bytes_high_first k (cond negative (2 ^ 128 - suc n) n) → size ≡ n / 256 ^ (k - i) → size ≡ n
size_end negative bytes size i k n past is so_far =
    let long : length bytes ≡ k = ap length is ∙ long_as_asked k (cond negative (2 ^ 128 - suc n) n) in
    let none : k - i ≡ 0 = omega arith in
    so_far ∙ ap (λ e. n / 256 ^ e) none ∙ div-one n

-- ---- the first byte, and the length

-- how long a number's code is
pub length_of_number : (n : ℤ) → length (number_code n) ≡ suc (number_width n)
length_of_number n = ap suc (long_as_asked (number_width n) (cast_unsigned w128 n))

-- the length of the first code where the first byte is a text's tag
pub text_first : (bytes rest : List ℕ) (tag len : ℕ) (f : Field) → bytes ≡ field_code f ++ rest → tag ≡ get_or bytes 0 0 → 64 ≤ tag → ((t : List ℕ) → bytes ≡ text_code t ++ rest → len ≡ length (text_code t)) → len ≡ length (field_code f)
text_first bytes rest tag len (Number n) begins first high text = absurd (omega (arith, tag_low n, first, ap (λ xs. get_or xs 0 0) begins))
text_first bytes rest tag len (Bytes t) begins first high text = text t begins

-- and where it is a number's
pub number_first : (bytes rest : List ℕ) (tag len min_len : ℕ) (f : Field) → bytes ≡ field_code f ++ rest → tag ≡ get_or bytes 0 0 → tag < 64 → ((n : ℤ) → tag ≡ number_tag n → len ≡ suc (number_width n)) → min_len ≡ min len (length bytes) → min_len ≡ length (field_code f)
number_first bytes rest tag len min_len (Number n) begins first low number least =
    let long : length bytes ≡ length (number_code n) + length rest = ap length begins ∙ length-append (number_code n) rest in
    omega (arith, number n (first ∙ ap (λ xs. get_or xs 0 0) begins), long, length_of_number n, least)
number_first bytes rest tag len min_len (Bytes t) begins first low number least = absurd (omega (arith, first, ap (λ xs. get_or xs 0 0) begins))

-- ---- numbers

-- the first byte of a number's code
tag_is : (bytes rest : List ℕ) (tag : ℕ) (n : ℤ) → bytes ≡ number_code n ++ rest → tag ≡ get_or bytes 0 0 → tag ≡ number_tag n
tag_is bytes rest tag n begins first = first ∙ ap (λ xs. get_or xs 0 0) begins

-- a number's code doesn't begin with a text's tag
pub no_text : (bytes rest : List ℕ) (tag : ℕ) (n : ℤ) → bytes ≡ number_code n ++ rest → tag ≡ get_or bytes 0 0 → 64 ≤ tag → ⊥
no_text bytes rest tag n begins first high = omega (arith, tag_low n, tag_is bytes rest tag n begins first)

-- the length by the tag is the code's, and there are as many bytes
pub number_room : (bytes rest : List ℕ) (tag len : ℕ) (n : ℤ) → bytes ≡ number_code n ++ rest → tag ≡ get_or bytes 0 0 → ((m : ℤ) → tag ≡ number_tag m → len ≡ suc (number_width m)) → (len ≡ suc (number_width n)) × (len ≤ 17) × (len ≤ length bytes)
number_room bytes rest tag len n begins first number =
    let is : len ≡ suc (number_width n) = number n (tag_is bytes rest tag n begins first) in
    let long : length bytes ≡ length (number_code n) + length rest = ap length begins ∙ length-append (number_code n) rest in
    (is, omega (arith, is, width_le 16 (number_size n)), omega (arith, is, long, length_of_number n))

-- tags below 32 are those of negative numbers
sign_of_tag : (n : ℤ) → ltb (number_tag n) 32 ≡ int_lt n (pos 0)
sign_of_tag (pos n) = le-ltb (32 + byte_width 16 n) 32 (omega arith) ∙ sym (le-ltb n 0 (omega arith))
sign_of_tag (negsuc n) = lt-ltb (31 - byte_width 16 n) 32 (omega arith)

-- the tag tells the sign
pub sign_is : (bytes rest : List ℕ) (tag : ℕ) (n : ℤ) → bytes ≡ number_code n ++ rest → tag ≡ get_or bytes 0 0 → ltb tag 32 ≡ int_lt n (pos 0)
sign_is bytes rest tag n begins first = ap (λ t. ltb t 32) (tag_is bytes rest tag n begins first) ∙ sign_of_tag n

-- a number's bits by its sign and size
bits_of : (n : ℤ) → cast_unsigned w128 n ≡ cond (int_lt n (pos 0)) (2 ^ 128 - suc (number_size n)) (number_size n)
bits_of (pos n) = rw (le-ltb n 0 (omega arith))
bits_of (negsuc n) = refl

-- a size has at most 16 bytes
size_below : (n : ℤ) → FitsSigned w128 n → number_size n < 256 ^ 16
size_below (pos n) fits = omega (arith, fits.sfits)
size_below (negsuc n) fits = omega (arith, fits.sfits)

-- what is read from the bytes behind the tag
pub size_read_back : (bytes rest : List ℕ) (tag len size : ℕ) (n : ℤ) → FitsSigned w128 n → bytes ≡ number_code n ++ rest → tag ≡ get_or bytes 0 0 → len ≡ suc (number_width n) → ((k m : ℕ) → m < 256 ^ k → take (len - 1) (drop 1 bytes) ≡ bytes_high_first k (cond (ltb tag 32) (2 ^ 128 - suc m) m) → size ≡ m) → size ≡ number_size n
size_read_back bytes rest tag len size n fits begins first is read =
    let width : len - 1 ≡ number_width n = omega (arith, is) in
    let bytes_are : take (number_width n) (bytes_high_first (number_width n) (cast_unsigned w128 n) ++ rest) ≡ bytes_high_first (number_width n) (cast_unsigned w128 n) =
    take_at (bytes_high_first (number_width n) (cast_unsigned w128 n)) rest (number_width n) (long_as_asked (number_width n) (cast_unsigned w128 n)) in
    let bits : cast_unsigned w128 n ≡ cond (ltb tag 32) (2 ^ 128 - suc (number_size n)) (number_size n) =
    bits_of n ∙ ap (λ b. cond b (2 ^ 128 - suc (number_size n)) (number_size n)) (sym (sign_is bytes rest tag n begins first)) in
    read (number_width n) (number_size n) (width_holds 16 (number_size n) (size_below n fits))
    (ap₂ (λ w xs. take w (drop 1 xs)) width begins ∙ bytes_are ∙ ap (bytes_high_first (number_width n)) bits)
