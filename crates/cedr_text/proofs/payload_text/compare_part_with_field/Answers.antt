use Rattle.std.proofs.Common.{sym, ap, ◌∙◌}
use Rattle.std.specs.Ordering.{ordering_reverse}
use Rattle.cedr_base.specs.declared.field.Field.TheVariants.{Bytes}
use Rattle.cedr_base.specs.OrderLaws.{field_total}
use Rattle.cedr_text.proofs.payload_text.compare_part_with_field.Goals as goal

pub returns : goal.returns
returns c = c.reverse.ensures ∙ (ap ordering_reverse c.compare_text.ensures ∙ sym (field_total.antisymm (Bytes c.args.part.now) c.args.field.now))
