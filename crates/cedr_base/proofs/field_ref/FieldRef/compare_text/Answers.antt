use Rattle.std.proofs.Common.{◌∙◌, ap}
use Rattle.cedr_base.specs.declared.field.Field.TheVariants.{Bytes}
use Rattle.cedr_base.specs.Order.{text_cmp, field_cmp}
use Rattle.cedr_base.specs.FieldCodes.{text_code}
use Rattle.cedr_base.proofs.FieldLemmas.{one_field_order}
use Rattle.cedr_base.proofs.field_ref.FieldRef.compare_text.Goals as goal

pub returns : goal.returns
returns c =
    c.compare_with_text.ensures ∙ ap (λ xs. text_cmp xs (text_code c.args.text.now)) c.self.inside.held.1.1
    ∙ one_field_order c.self.inside.held.0 (Bytes c.args.text.now) c.self.inside.held.1.0 tt ∙ ap (λ f. field_cmp f (Bytes c.args.text.now)) c.self.view_is
