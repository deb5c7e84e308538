use Rattle.std.proofs.Common.{◌≡◌, ◌++◌, take, length}
use Rattle.cedr_expr.specs.Tests.{passes}
use Rattle.cedr_table.specs.Counted.{spread}
use Rattle.op_join.specs.Pairs.{all_changes}
use Rattle.op_join.proofs.pairs.repair_range.Given as goal

abbrev pub invariant-loop-other : goal.invariant-loop-other
invariant-loop-other l =
    (l.out.items ++ all_changes (passes l.tests) l.side l.change (spread l.other-iterator) ≡ l.initial.out.items ++ all_changes (passes l.tests) l.side l.change (spread l.fn.others))
    × (take (length l.initial.out.items) l.out.items ≡ l.initial.out.items)
