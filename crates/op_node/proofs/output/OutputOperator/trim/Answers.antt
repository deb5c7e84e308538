use Rattle.std.proofs.Common.{◌∙◌}
use Rattle.cedr_table.specs.PortLaws.{rise_length}
use Rattle.op_node.proofs.output.OutputOperator.trim.Goals as goal

pub returns-clause-stands : goal.returns-clause-stands
returns-clause-stands c = λ tables earlier stands rise. record { table = stands.table; mark = rise_length earlier c.args._marks.now rise ∙ stands.mark }
