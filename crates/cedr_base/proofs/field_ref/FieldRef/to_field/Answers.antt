use Rattle.std.proofs.Common.{◌∙◌, ◌++◌, ap, sym}
use Rattle.cedr_base.specs.declared.field.Field.TheVariants.{Bytes}
use Rattle.cedr_base.proofs.FieldLemmas.{text_of}
use Rattle.cedr_base.proofs.field_ref.FieldRef.to_field.Goals as goal

pub returns : goal.returns
returns c =
    let found = text_of c.args.self.now (sym c.in_default.is ∙ c.number.ensures) in
    ap (λ xs. Bytes xs) (c.from.ensures ∙ (c.in_ok-append_text.ensures found.0 found.1 ∙ ap (λ xs. xs ++ found.0) c.new-bytes.ensures.items)) ∙ sym found.1
