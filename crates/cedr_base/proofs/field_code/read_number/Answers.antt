use Rattle.std.proofs.Common.{arith}
use Rattle.cedr_base.proofs.FieldReading.{no_text, number_room, sign_is, size_read_back}
use Rattle.cedr_base.proofs.field_code.read_number.Goals as goal
use Rattle.cedr_base.proofs.field_code.read_number.Goals.{then-len-gt17-via-then-len-gt17, then-len-gt17-via-else-len-gt17+then-len-bytes}

pub returns-then-tag-ge-TEXT_TAG-clause-number : goal.returns-then-tag-ge-TEXT_TAG-clause-number
returns-then-tag-ge-TEXT_TAG-clause-number c = λ n rest fits begins.
    absurd (no_text c.args.bytes.now rest c.in_ok-tag.field-0.now n begins (c.in_ok-tag.ensures.item.3.1 0) c.if-tag-ge-TEXT_TAG.true)

pub returns-then-len-gt17-clause-number : goal.returns-then-len-gt17-clause-number
returns-then-len-gt17-clause-number c = λ n rest fits begins.
    let room = number_room c.args.bytes.now rest c.in_ok-tag.field-0.now c.number_len-len.result n begins (c.in_ok-tag.ensures.item.3.1 0) c.number_len-len.ensures.number in
    elim c.then-len-gt17.branch [
      | then-len-gt17-via-then-len-gt17 w ↦ absurd (omega (arith, room.1, w.if-len-gt17.true))
      | then-len-gt17-via-else-len-gt17+then-len-bytes w ↦ absurd (omega (arith, room.2, w.if-len-bytes.true))
    ]

pub returns-clause-number : goal.returns-clause-number
returns-clause-number c = λ n rest fits begins.
    let first = c.in_ok-tag.ensures.item.3.1 0 in
    let room = number_room c.args.bytes.now rest c.in_ok-tag.field-0.now c.number_len-len.result n begins first c.number_len-len.ensures.number in
    c.signed.ensures n fits (sign_is c.args.bytes.now rest c.in_ok-tag.field-0.now n begins first)
    (size_read_back c.args.bytes.now rest c.in_ok-tag.field-0.now c.number_len-len.result c.read_size-size.result n fits begins first room.0 c.read_size-size.ensures)
