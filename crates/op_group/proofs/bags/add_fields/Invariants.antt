use Rattle.std.proofs.Common.{take}
use Rattle.op_group.specs.Bags.{ComesTo, field_lives, columns_but}
use Rattle.op_group.proofs.bags.add_fields.Given as goal

abbrev pub invariant-loop-column : goal.invariant-loop-column
invariant-loop-column l = ComesTo l.initial.living l.living (field_lives (columns_but l.but (take l.column-index l.columns)) (record l.row { end = l.end }))
