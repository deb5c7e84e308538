use Rattle.std.proofs.Common.{◌≡◌, ◌+◌, [], length}
use Rattle.std.specs.Vec.{vec_capacity}
use Rattle.crossbeam_queue.specs.Passes.{view as known}
use Rattle.pool_queue.proofs.Seating.{Seating}
use Rattle.pool_queue.proofs.room.seat_each.Given as goal

abbrev pub invariant-loop-blank : goal.invariant-loop-blank
invariant-loop-blank g l = record {
  of : l.pass.table_id ≡ l.fn.pass.table_id;
  none : l.pass.me.1 ≡ [];
  opened : (known l.pass).opened ≡ (known l.fn.pass).opened;
  held : (known l.pass).held ≡ [];
  so : Seating l.fn.pass.table_id (known l.fn.pass).opened (known l.pass).parts l.passes.items l.left.items;
  count : length l.passes.items + length l.left.items + 1 ≡ length l.fn.blanks.items;
  room : vec_capacity l.passes ≡ vec_capacity l.fn.passes;
}

abbrev pub decreases-loop-blank : goal.decreases-loop-blank
decreases-loop-blank g l = length l.left.items
