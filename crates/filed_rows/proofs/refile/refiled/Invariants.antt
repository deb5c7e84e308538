use Rattle.std.specs.BTreeMap.{IsOrdered}
use Rattle.std.specs.Ordering.{nat_cmp}
use Rattle.cedr_expr.specs.Tags.{right_tag}
use Rattle.filed_rows.specs.Filed.{Files}
use Rattle.filed_rows.specs.Ends.{AreEnds}
use Rattle.filed_rows.proofs.refile.refiled.Given as goal

abbrev pub invariant-loop-row : goal.invariant-loop-row
invariant-loop-row l = record {
  files : Files (right_tag l.width l.tests) l.filed.by_tag.entries l.yielded;
  ends : AreEnds l.filed.by_tag.entries l.filed.ends;
  ordered : IsOrdered nat_cmp l.filed.by_tag;
}
