use Rattle.std.proofs.Common.{refl, subst}
use Rattle.cedr_text.specs.Reading.{Reads, version_of, version_from}
use Rattle.cedr_text.proofs.ReadingLemmas.{plain_read}
use Rattle.cedr_text.proofs.read.read_version_line.Goals as goal

pub returns-then-has_plain_bytes : goal.returns-then-has_plain_bytes
returns-then-has_plain_bytes c =
    let shape = c.args.shape.now in
    let same = plain_read (version_of shape) (version_from shape) c.args.line.now (λ fields. refl) (c.has_plain_bytes.ensures.plain c.if-has_plain_bytes.true) in
    subst (Reads c.read_version.result) same c.read_version.ensures
