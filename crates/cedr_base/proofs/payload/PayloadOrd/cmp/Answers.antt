use Rattle.std.proofs.Common.{◌∙◌, ap₂}
use Rattle.cedr_base.specs.Order.{text_cmp}
use Rattle.cedr_base.specs.CodeLaws.{code_order}
use Rattle.cedr_base.proofs.payload.PayloadOrd.cmp.Goals as goal

pub returns : goal.returns
returns c = c.compare_codes.ensures ∙ ap₂ text_cmp c.code.ensures.code c.code-2.ensures.code ∙ code_order c.args.self.now c.args.other.now c.code.ensures.fits c.code-2.ensures.fits
