use Rattle.std.proofs.Common.{◌≡◌, ◌++◌}
use Rattle.std.specs.BTreeMap.Range.{entries_between}
use Rattle.std.specs.Ordering.{nat_cmp}
use Rattle.std.specs.declared.ops.Bound.TheVariants.{Included}
use Rattle.op_group.specs.Cuts.{rows_after, rows_of_cuts}
use Rattle.op_group.proofs.answer.rows_between.Given as goal

abbrev pub invariant-loop-at : goal.invariant-loop-at
invariant-loop-at l = l.rows.items ++ rows_after l.counted l.key l.open l.at-iterator ≡ rows_of_cuts l.counted l.key (entries_between nat_cmp (Included l.from) (Included l.to) l.fn.cuts.entries)
