use Rattle.std.proofs.Common.{◌≡◌, length}
use Rattle.pool_queue.specs.Passes.{AreBlank}
use Rattle.pool_queue.proofs.room.new_blanks.Given as goal

abbrev pub invariant-loop-i : goal.invariant-loop-i
invariant-loop-i g l = record {
  count : length l.blanks.items ≡ l._i;
  blank : AreBlank l.tasks.value.table.shared.table_id l.size l.blanks.items;
}
