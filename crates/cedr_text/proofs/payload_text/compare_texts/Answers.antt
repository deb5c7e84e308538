use Rattle.std.proofs.Common.{◌≡◌, ◌<◌, ◌≤◌, length, get_or, sym, ◌∙◌, arith}
use Rattle.cedr_text.proofs.TextRowLemmas.{goes_on, ends, same_here}
use Rattle.cedr_text.proofs.payload_text.compare_texts.Goals as goal

pub returns-in_default : goal.returns-in_default
returns-in_default c =
    let beyond : length c.args.other.now ≤ c.loop-at.at = omega (arith, c.in_default.ensures) in
    sym (c.loop-at.invariant.rest ∙ goes_on c.args.text.now c.args.other.now c.loop-at.at c.loop-at-test.true beyond)

pub loop-at-preserved : goal.loop-at-preserved
loop-at-preserved c =
    let text = c.args.text.now in
    let other = c.args.other.now in
    let at = c.loop-at.at in
    let within : at < length other = omega (arith, c.in-Some.ensures) in
    let byte = c.in-Some.other_byte.now in
    let found : byte ≡ get_or other at byte = omega (arith, c.in-Some.ensures) in
    record {
      both = omega arith;
      rest = c.loop-at.invariant.rest ∙ same_here text other at byte c.loop-at-test.true within c.if-byte-other_byte.false found;
    }

pub returns-then-text-other : goal.returns-then-text-other
returns-then-text-other c =
    sym (c.loop-at.invariant.rest ∙ ends c.args.text.now c.args.other.now c.loop-at.at c.loop-at-test.false (omega arith))
