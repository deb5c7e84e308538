use Rattle.std.proofs.Common.{◌≡◌}
use Rattle.cedr_table.specs.Counted.{spread, AreThere}
use Rattle.filed_rows.specs.Spans.{AreAmong}
use Rattle.op_except.proofs.around.end_at_next.Given as goal

abbrev pub invariant-loop-other : goal.invariant-loop-other
invariant-loop-other l = record {
  among : AreAmong (spread l.other-iterator) (spread l.fn.others);
  there : AreThere l.other-iterator;
  same : l.part ≡ l.initial.part;
}
