use Rattle.std.proofs.Common.{◌∷◌, [], length, ap, length-append, arith}
use Rattle.pool_queue.proofs.Seating.{blanks_next}
use Rattle.pool_queue.proofs.room.new_blanks.Goals as goal

pub loop-i-preserved : goal.loop-i-preserved
loop-i-preserved g c = record {
  count = omega (arith, ap length c.in_ok-push.ensures.items, length-append c.loop-i.blanks.items (c.in_ok-blank.blank ∷ []), c.loop-i.invariant.count);
  blank = blanks_next _ _ c.loop-i.blanks.items _ c.in_ok-blank.blank c.loop-i.invariant.blank c.in_ok-blank.ensures c.in_ok-push.ensures.items;
}
