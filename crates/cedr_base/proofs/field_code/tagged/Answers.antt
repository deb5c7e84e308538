use Rattle.std.proofs.Common.{◌∙◌}
use Rattle.cedr_base.proofs.FieldBytes.{tag_and_lowest}
use Rattle.cedr_base.proofs.field_code.tagged.Goals as goal

pub returns : goal.returns
returns c = tag_and_lowest c.args.count c.args.bits c.args.tag c.copy_from_slice.new.self c.requires (c.copy_from_slice.ensures.after ∙ c.to_be_bytes.ensures)
