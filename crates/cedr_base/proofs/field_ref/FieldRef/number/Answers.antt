use Rattle.std.proofs.Common.{◌∙◌, ap}
use Rattle.cedr_base.specs.FieldCodes.{number_in}
use Rattle.cedr_base.proofs.FieldLemmas.{number_read}
use Rattle.cedr_base.proofs.field_ref.FieldRef.number.Goals as goal

pub returns : goal.returns
returns c = number_read c.self.inside.bytes.now c.read_number.result c.self.inside.held.0 c.self.inside.held.1 c.read_number.ensures.number c.read_number.ensures.text ∙ ap number_in c.self.view_is
