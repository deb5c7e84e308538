use Rattle.std.proofs.Common.{◌≡◌, ◌+◌, ◌*◌, ◌^◌, ◌≤◌, ◌&&◌, ℕ, true, get_or, ap, ◌∙◌, add-one, arith}
use Rattle.std.proofs.Math.Nat.{pow-suc, pow-le-pow_right}
use Rattle.std.proofs.lemmas.Int.Digits.{digits_value_more}
use Rattle.std.proofs.lemmas.List.Folds.{list_all_more}
use Rattle.std.proofs.lemmas.Str.{digit_value_digit}
use Rattle.std.specs.Char.{is_ascii_digit, digit_value}
use Rattle.cedr_text.proofs.Numerals.{digit_range}
use Rattle.cedr_text.proofs.number.leading_number.Goals as goal

-- a number of at most 18 digits
small_power : (at : ℕ) → at ≤ 18 → 10 ^ at ≤ 1000000000000000000
small_power at few = pow-le-pow_right {n = 10} (omega arith) few

pub overflow_mul-value : goal.overflow_mul-value
overflow_mul-value c = omega (arith, small_power c.loop-at.at (omega arith))

pub overflow_add-value : goal.overflow_add-value
overflow_add-value c =
    let byte = get_or c.args.bytes.now c.loop-at.at 0 in
    let digit : is_ascii_digit byte ≡ true = cc (c.if-not-is_ascii_digit.false, c.is_ascii_digit.ensures.value) in
    omega (arith, small_power c.loop-at.at (omega arith), digit_range byte digit)

pub loop-at-preserved : goal.loop-at-preserved
loop-at-preserved c =
    let text = c.args.bytes.now in
    let at = c.loop-at.at in
    let value = c.loop-at.value in
    let byte = get_or text at 0 in
    let digit : is_ascii_digit byte ≡ true = cc (c.if-not-is_ascii_digit.false, c.is_ascii_digit.ensures.value) in
    let range = digit_range byte digit in
    let last : value * 10 + digit_value byte ≡ value * 10 + c.from.result = omega (arith, digit_value_digit byte range) in
    let power : 10 ^ (at + 1) ≡ 10 ^ at * 10 = ap (λ n. 10 ^ n) (add-one at) ∙ pow-suc 10 at in
    record {
      digits = list_all_more is_ascii_digit text at 0 c.loop-at-test.true ∙ ap (λ all. all && is_ascii_digit byte) c.loop-at.invariant.digits ∙ digit;
      spelled = digits_value_more 10 text at c.loop-at-test.true ∙ ap (λ n. n * 10 + digit_value byte) c.loop-at.invariant.spelled ∙ last;
      few = omega arith;
      small = omega arith;
    }
