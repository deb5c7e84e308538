use Rattle.std.proofs.Common.{◌≡◌, ◌++◌, take, length}
use Rattle.cedr_expr.specs.Tests.{passes}
use Rattle.filed_rows.specs.Filed.{all_under}
use Rattle.op_join.specs.Pairs.{all_changes}
use Rattle.op_join.proofs.partners.repair_all.Given as goal

abbrev pub invariant-loop-rows : goal.invariant-loop-rows
invariant-loop-rows l =
    (l.out.items ++ all_changes (passes l.tests) l.side l.change (all_under l.rows-iterator) ≡ l.initial.out.items ++ all_changes (passes l.tests) l.side l.change (all_under l.filed.entries))
    × (take (length l.initial.out.items) l.out.items ≡ l.initial.out.items)
