use Rattle.std.proofs.Common.{◌∙◌}
use Rattle.cedr_table.specs.PortLaws.{rise_length}
use Rattle.cedr_table.proofs.row_wise.AnyOperator.trim.Goals as goal

pub returns-clause-stands : goal.returns-clause-stands
returns-clause-stands g c = λ tables earlier stands rise. record { range = stands.range; table = stands.table; mark = rise_length earlier c.args._marks.now rise ∙ stands.mark }
