use Rattle.std.proofs.Common.{◌∙◌, []}
use Rattle.cedr_base.proofs.FieldLemmas.{text_begins}
use Rattle.cedr_base.proofs.field_ref.FieldRef.append_text.Goals as goal

pub returns : goal.returns
returns c = λ text is. c.append_text.ensures text [] (text_begins c.self.inside.bytes.now c.self.inside.held.0 text c.self.inside.held.1 (c.self.view_is ∙ is))
