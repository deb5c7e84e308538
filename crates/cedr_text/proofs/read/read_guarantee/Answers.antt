use Rattle.std.proofs.Common.{sym}
use Rattle.cedr_text.specs.Parts.{parts_of}
use Rattle.cedr_text.proofs.BareLemmas.{guarantee_long}
use Rattle.cedr_text.proofs.read.read_guarantee.Goals as goal

pub returns-in_default-Some : goal.returns-in_default-Some
returns-in_default-Some c =
    let cut = c.cut_time_at.ensures in
    sym (guarantee_long c.args.separator (parts_of c.args.separator c.args.fields.now) cut.field c.in_default-Some.field-0-1.now (rw c.in_default-Some.is-1 at cut.parts_are))
