use Rattle.std.proofs.Common.{◌+◌, arith}
use Rattle.cedr_text.proofs.Cuts.{rest_from}
use Rattle.cedr_text.proofs.Numerals.{cuts_at_separator, cuts_at_end}
use Rattle.cedr_text.proofs.number.cut_digits.Goals as goal

pub returns-then-count-bytes : goal.returns-then-count-bytes
returns-then-count-bytes c = cuts_at_end c.args.separator c.args.bytes.now c.in_ok-value.value c.in_ok-value.count c.requires c.in_ok-value.ensures (omega arith) c.if-count-bytes.true

pub returns-then-bytes-count : goal.returns-then-bytes-count
returns-then-bytes-count c =
    let bytes = c.args.bytes.now in
    let count = c.in_ok-value.count in
    rw (rest_from bytes (count + 1)) (cuts_at_separator c.args.separator bytes c.in_ok-value.value count c.requires c.in_ok-value.ensures (omega arith) (omega (arith, c.in_ok-value.ensures.within)) c.if-bytes-count.true)
