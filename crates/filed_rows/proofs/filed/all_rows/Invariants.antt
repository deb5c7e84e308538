use Rattle.std.proofs.Common.{◌++◌}
use Rattle.cedr_base.specs.Rows.{SameRows}
use Rattle.filed_rows.specs.Filed.{all_under}
use Rattle.filed_rows.proofs.filed.all_rows.Given as goal

abbrev pub invariant-loop-filed : goal.invariant-loop-filed
invariant-loop-filed l = SameRows (l.rows.items ++ all_under l.filed-iterator) (all_under l.fn.by_tag.entries)
