-- What the functions on codes compute.
use Rattle.std.proofs.Common.{◌≡◌, ℕ, zero, suc, ◌+◌, ◌-◌, ◌*◌, ◌/◌, ◌^◌, ◌<◌, ◌≤◌, inl, inr, List, [], ◌∷◌, ◌++◌, Bool, true, false, cond, length, take, drop, set, get_or, ltb, ltb-true, ltb-false, lt-ltb, le-ltb, refl, ap, sym, ap₂, ◌∙◌, arith, append_assoc, append-nil, drop-cons, drop_of_length-le, length-drop, ◌≢◌}
use Rattle.std.specs.Int.{w128, bytes_high_first, to_be_bytes}
use Rattle.std.proofs.lemmas.Bool.{cases_lt}
use Rattle.std.proofs.lemmas.Nat.{leading_length, pow-add}
use Rattle.std.proofs.lemmas.List.{take_all, drop-set}
use Rattle.std.specs.Int.Count.{count_leading_zeros}
use Rattle.std.proofs.Math.Nat.{pow-le-pow_right, pow-suc}
use Rattle.cedr_base.specs.FieldCodes.{byte_width, escaped}

-- ---- widths

-- powers ascend
pub bigger_power : (j k : ℕ) → j ≤ k → 256 ^ j ≤ 256 ^ k
bigger_power j k h = pow-le-pow_right (omega arith) h

-- one step of `least_width`
least_width_at : (k n w : ℕ) (b : Bool) → ltb n (256 ^ k) ≡ b → w ≤ suc k → n < 256 ^ w → ((j : ℕ) → w ≡ suc j → 256 ^ j ≤ n) → (w ≤ k → w ≡ byte_width k n) → w ≡ cond b (byte_width k n) (suc k)
least_width_at k n w true test within fits least below = elim (cases_lt k w) [
  | inl top ↦ absurd (omega (arith, ltb-true n (256 ^ k) test, least k (omega arith)))
  | inr low ↦ below low
]
least_width_at k n w false test within fits least below = elim (cases_lt k w) [
  | inl top ↦ omega arith
  | inr low ↦ absurd (omega (arith, ltb-false n (256 ^ k) test, bigger_power w k low, fits))
]

-- the width is the least at which a number fits
pub least_width : (k n w : ℕ) → w ≤ k → n < 256 ^ w → ((j : ℕ) → w ≡ suc j → 256 ^ j ≤ n) → w ≡ byte_width k n
unfolding byte_width
least_width zero n w within fits least = omega arith
least_width (suc k) n w within fits least = least_width_at k n w (ltb n (256 ^ k)) refl within fits least (λ low. least_width k n w low fits least)

-- a byte is eight bits
power_of_bits : (k : ℕ) → 2 ^ (8 * k) ≡ 256 ^ k
power_of_bits zero = refl
power_of_bits (suc k) =
    let eight : 8 * suc k ≡ 8 * k + 8 = omega arith in
    ap (λ e. 2 ^ e) eight ∙ pow-add 2 (8 * k) 8 ∙ ap (λ p. p * 256) (power_of_bits k) ∙ sym (pow-suc 256 k)

-- powers of two ascend
two_powers : (j k : ℕ) → j ≤ k → 2 ^ j ≤ 2 ^ k
two_powers j k h = pow-le-pow_right (omega arith) h

-- the width by a count of leading zeros
pub width_by_zeros : (n : ℕ) → n < 2 ^ 128 → 16 - count_leading_zeros 128 n / 8 ≡ byte_width 16 n
width_by_zeros n fits =
    let (m, counted, below, above) = leading_length 128 n fits in
    least_width 16 n (16 - count_leading_zeros 128 n / 8) (omega arith)
    (
    let room = two_powers m (8 * (16 - count_leading_zeros 128 n / 8)) (omega (arith, counted)) in
    omega (arith, below, room, power_of_bits (16 - count_leading_zeros 128 n / 8))
    )
    (λ j last.
    let room = two_powers (suc (8 * j)) m (omega (arith, counted, last)) in
    omega (arith, above, room, pow-suc 2 (8 * j), power_of_bits j))

-- ---- bytes of a number

-- the lowest bytes of more
pub lowest_bytes : (j k n : ℕ) → drop j (bytes_high_first (j + k) n) ≡ bytes_high_first k n
lowest_bytes zero k n = ap (λ w. bytes_high_first w n) (omega arith)
lowest_bytes (suc j) k n =
    let next : suc j + k ≡ suc (j + k) = omega arith in
    rw next (lowest_bytes j k n)

-- the lowest bytes of all that a number has
pub lowest_of_all : (k n : ℕ) → k ≤ 16 → drop (16 - k) (to_be_bytes w128 n) ≡ bytes_high_first k n
lowest_of_all k n within =
    let whole : 16 ≡ 16 - k + k = omega arith in
    ap (λ w. drop (16 - k) (bytes_high_first w n)) whole ∙ lowest_bytes (16 - k) k n

-- there are as many bytes as asked for
pub long_as_asked : (k n : ℕ) → length (bytes_high_first k n) ≡ k
long_as_asked zero n = refl
long_as_asked (suc k) n = ap suc (long_as_asked k n)

-- what `tagged` gives behind its first bytes
pub tag_and_lowest : (k n tag : ℕ) (all : List ℕ) → k ≤ 16 → all ≡ to_be_bytes w128 n → drop (16 - k) (set (0 ∷ (all ++ [])) (16 - k) tag) ≡ tag ∷ bytes_high_first k n
tag_and_lowest k n tag all within is =
    let long : length all ≡ 16 = ap length is ∙ long_as_asked 16 n in
    let next : 16 - k + 1 ≡ suc (16 - k) = omega arith in
    let lowest : drop (16 - k) (all ++ []) ≡ bytes_high_first k n = ap (drop (16 - k)) (append-nil all ∙ is) ∙ lowest_of_all k n within in
    drop-set (0 ∷ (all ++ [])) (16 - k) tag (omega (arith, long, ap length (append-nil all)))
    ∙ ap (λ j. tag ∷ drop j (0 ∷ (all ++ []))) next ∙ ap (λ xs. tag ∷ xs) lowest

-- ---- runs of a text

-- a run of bytes above 1 stands as it is
pub escaped_run : (xs : List ℕ) (r : ℕ) → r ≤ length xs → ((k : ℕ) → k < r → 2 ≤ get_or xs k 0) → escaped xs ≡ take r xs ++ escaped (drop r xs)
escaped_run xs zero within large = refl
escaped_run [] (suc r) within large = absurd (omega arith)
escaped_run (x ∷ xs) (suc r) within large =
    let plain : ltb x 2 ≡ false = le-ltb x 2 (large 0 (omega arith)) in
    let rest = escaped_run xs r (omega arith) (λ k low. large (suc k) (omega arith)) in
    rw plain (ap (λ ys. x ∷ ys) rest)

-- a byte that ends a run
pub escaped_low : (x : ℕ) (xs : List ℕ) → x < 2 → escaped (x ∷ xs) ≡ 1 ∷ (x + 1) ∷ escaped xs
escaped_low x xs low = rw (lt-ltb x 2 low)

-- what is left of a list behind an index
pub tail_of : (xs : List ℕ) (a : ℕ) → take (length xs - a) (drop a xs) ≡ drop a xs
tail_of xs a = take_all (length xs - a) (drop a xs) (omega (arith, length-drop a xs))

-- a run and two bytes behind what is there
two_more : (o t e : List ℕ) (a b : ℕ) → (((o ++ t) ++ a ∷ []) ++ b ∷ []) ++ e ≡ o ++ (t ++ a ∷ b ∷ e)
two_more o t e a b = append_assoc ((o ++ t) ++ a ∷ []) (b ∷ []) e ∙ append_assoc (o ++ t) (a ∷ []) (b ∷ e) ∙ append_assoc o t (a ∷ b ∷ e)

-- a run, and the byte that ends it
run_and_low : (rest : List ℕ) (run : ℕ) → run < length rest → ((k : ℕ) → k < run → 2 ≤ get_or rest k 0) → get_or rest run 0 < 2 → escaped rest ≡ take run rest ++ 1 ∷ (get_or rest run 0 + 1) ∷ escaped (drop (suc run) rest)
run_and_low rest run inside plain low =
    escaped_run rest run (omega arith) plain ∙ ap (λ xs. take run rest ++ escaped xs) (drop-cons rest run 0 inside) ∙ ap (λ xs. take run rest ++ xs) (escaped_low (get_or rest run 0) (drop (suc run) rest) low)

-- one turn of `push_text`
pub text_step : (out with_run one two rest whole : List ℕ) (run : ℕ) → out ++ escaped rest ≡ whole → run ≤ length rest → (run ≢ length rest) → ((k : ℕ) → k < run → 2 ≤ get_or rest k 0) → (run < length rest → get_or rest run 0 < 2) → with_run ≡ out ++ take run rest → one ≡ with_run ++ 1 ∷ [] → two ≡ one ++ (get_or rest run 0 + 1) ∷ [] → two ++ escaped (take (length rest - (run + 1)) (drop (run + 1) rest)) ≡ whole
text_step out with_run one two rest whole run so_far within more plain low a b c =
    let inside : run < length rest = omega arith in
    let next : run + 1 ≡ suc run = omega arith in
    let left : take (length rest - (run + 1)) (drop (run + 1) rest) ≡ drop (suc run) rest = tail_of rest (run + 1) ∙ ap (λ n. drop n rest) next in
    let written : two ≡ ((out ++ take run rest) ++ 1 ∷ []) ++ (get_or rest run 0 + 1) ∷ [] = c ∙ ap (λ xs. xs ++ (get_or rest run 0 + 1) ∷ []) (b ∙ ap (λ xs. xs ++ 1 ∷ []) a) in
    ap₂ (λ xs ys. xs ++ escaped ys) written left ∙ two_more out (take run rest) (escaped (drop (suc run) rest)) 1 (get_or rest run 0 + 1)
    ∙ ap (λ xs. out ++ xs) (sym (run_and_low rest run inside plain (low inside))) ∙ so_far

-- the last turn of `push_text`
pub text_end : (old pushed out with_run new rest bytes : List ℕ) (run : ℕ) → pushed ≡ old ++ 64 ∷ [] → out ++ escaped rest ≡ pushed ++ escaped bytes → run ≡ length rest → ((k : ℕ) → k < run → 2 ≤ get_or rest k 0) → with_run ≡ out ++ take run rest → new ≡ with_run ++ 0 ∷ [] → new ≡ old ++ 64 ∷ (escaped bytes ++ 0 ∷ [])
text_end old pushed out with_run new rest bytes run first so_far at_end plain a b =
    let nothing : drop run rest ≡ [] = drop_of_length-le rest (omega arith) in
    let run_is : take run rest ≡ escaped rest = sym (append-nil (take run rest)) ∙ ap (λ xs. take run rest ++ escaped xs) (sym nothing) ∙ sym (escaped_run rest run (omega arith) plain) in
    let all : with_run ≡ (old ++ 64 ∷ []) ++ escaped bytes = a ∙ ap (λ xs. out ++ xs) run_is ∙ so_far ∙ ap (λ xs. xs ++ escaped bytes) first in
    b ∙ ap (λ xs. xs ++ 0 ∷ []) all ∙ append_assoc (old ++ 64 ∷ []) (escaped bytes) (0 ∷ []) ∙ append_assoc old (64 ∷ []) (escaped bytes ++ 0 ∷ [])
