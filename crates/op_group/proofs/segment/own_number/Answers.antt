use Rattle.std.proofs.Common.{◌∙◌, sym}
use Rattle.op_group.proofs.FieldNumbers.{text_adds}
use Rattle.op_group.proofs.segment.own_number.Goals as goal

pub returns-in-None : goal.returns-in-None
returns-in-None c = text_adds c.args.field.now (sym c.in-None.is ∙ c.number.ensures)
