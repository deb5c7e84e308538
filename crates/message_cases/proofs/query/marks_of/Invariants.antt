use Rattle.cedr_table.specs.Operators.{AreTimes}
use Rattle.message_cases.proofs.query.marks_of.Given as goal

abbrev pub invariant-loop-word : goal.invariant-loop-word
invariant-loop-word l = AreTimes l.marks.items
