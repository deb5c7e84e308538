use Rattle.std.proofs.Common.{◌∙◌, ap₂}
use Rattle.cedr_base.specs.Order.{text_cmp}
use Rattle.cedr_base.proofs.FieldLemmas.{one_field_order}
use Rattle.cedr_base.proofs.field_ref.FieldRefOrd.cmp.Goals as goal

pub returns : goal.returns
returns c = c.cmp.ensures ∙ ap₂ text_cmp c.code.ensures.code c.code-2.ensures.code ∙ one_field_order c.args.self.now c.args.other.now c.code.ensures.fits c.code-2.ensures.fits
