use Rattle.std.proofs.Common.{◌+◌, ◌-◌, ◌*◌, ◌<◌, get_or, drop, ap, sym, ◌∙◌, arith}
use Rattle.std.proofs.lemmas.List.{drop_more}
use Rattle.cedr_text.proofs.Numerals.{number_after, number_at_digit, number_too_large}
use Rattle.cedr_commands.proofs.command.number.Goals as goal

pub returns-in_err-value-clause-value : goal.returns-in_err-value-clause-value
returns-in_err-value-clause-value c =
    let text = c.args.digits.now in
    let at = c.loop-digit.digit-index in
    let byte = get_or text at 0 in
    let value = c.loop-digit.value in
    let last = c.args.last in
    let over : last < value * 10 + (byte - 48) = omega (arith, c.in_err-value.ensures, c.ranges.last.fits) in
    let here = drop_more text at 0 c.loop-digit-test.true in
    let digit = c.is_ascii_digit.ensures.value in
    let none = number_at_digit last value byte (drop (at + 1) text) (cc (c.if-not-is_ascii_digit.false, digit)) ∙ number_too_large last (value * 10 + (byte - 48)) (drop (at + 1) text) over in
    c.from_residual.ensures ∙ sym (c.loop-digit.invariant ∙ (ap (number_after last value) here ∙ none))
