use Rattle.cedr_table.specs.Operators.{AreTimes}
use Rattle.op_cases.proofs.case.play.Given as goal

abbrev pub invariant-loop-line : goal.invariant-loop-line
invariant-loop-line g l = g.O.Operator.stands l.op l.tables.items l.marks.items × AreTimes l.marks.items
