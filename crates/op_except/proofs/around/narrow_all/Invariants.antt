use Rattle.filed_rows.specs.Filed.{all_under}
use Rattle.filed_rows.specs.Spans.{AreAmong}
use Rattle.op_except.specs.Around.{Narrows}
use Rattle.op_except.proofs.around.narrow_all.Given as goal

abbrev pub invariant-loop-rows : goal.invariant-loop-rows
invariant-loop-rows l = record {
  among : AreAmong (all_under l.rows-iterator) (all_under l.fn.right.entries);
  narrows : Narrows l.tests l.from l.to (all_under l.fn.right.entries) l.initial.part l.part;
}
