use Rattle.std.proofs.Common.{◌∙◌, ap}
use Rattle.cedr_base.specs.FieldCodes.{is_numeric}
use Rattle.cedr_base.proofs.FieldLemmas.{tag_tells}
use Rattle.cedr_base.proofs.field_ref.FieldRef.is_number.Goals as goal

pub returns-in-Some : goal.returns-in-Some
returns-in-Some c = tag_tells c.self.inside.bytes.now c.in-Some.tag.now c.self.inside.held.0 c.self.inside.held.1 (c.in-Some.ensures.item.3.1 0) ∙ ap is_numeric c.self.view_is
