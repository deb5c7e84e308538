use Rattle.std.proofs.Common.{refl, subst}
use Rattle.cedr_text.specs.Reading.{Reads, event_of, event_from}
use Rattle.cedr_text.proofs.ReadingLemmas.{plain_read}
use Rattle.cedr_text.proofs.read.read_fields.Goals as goal

pub returns-then-has_plain_bytes : goal.returns-then-has_plain_bytes
returns-then-has_plain_bytes c =
    let shape = c.args.shape.now in
    let same = plain_read (event_of shape) (event_from shape) c.args.line.now (λ fields. refl) (c.has_plain_bytes.ensures.plain c.if-has_plain_bytes.true) in
    subst (Reads c.read_event.result) same c.read_event.ensures
