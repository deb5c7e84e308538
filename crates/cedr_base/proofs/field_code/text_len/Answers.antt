use Rattle.std.proofs.Common.{arith}
use Rattle.cedr_base.proofs.FieldReading.{end_of_text}
use Rattle.cedr_base.proofs.field_code.text_len.Goals as goal

pub returns-then-end-bytes-clause-first : goal.returns-then-end-bytes-clause-first
returns-then-end-bytes-clause-first c = λ text rest begins.
    (end_of_text c.args.bytes.now text rest c.zero_place-end.result c.zero_place-end.ensures.within c.zero_place-end.ensures.before c.zero_place-end.ensures.found begins).0

pub returns-else-end-bytes-clause-first : goal.returns-else-end-bytes-clause-first
returns-else-end-bytes-clause-first c = λ text rest begins.
    let is = end_of_text c.args.bytes.now text rest c.zero_place-end.result c.zero_place-end.ensures.within c.zero_place-end.ensures.before c.zero_place-end.ensures.found begins in
    absurd (omega (arith, is.1))
