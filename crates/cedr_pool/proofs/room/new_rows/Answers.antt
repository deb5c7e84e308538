use Rattle.std.proofs.Common.{[], ◌∷◌, length, sym, ap, subst, length-append, arith}
use Rattle.std.specs.List.{All}
use Rattle.std.proofs.lemmas.List.Elements.{All-push}
use Rattle.cedr_pool.specs.Seats.{IsRowFor}
use Rattle.cedr_pool.proofs.room.new_rows.Goals as goal

pub loop-i-preserved : goal.loop-i-preserved
loop-i-preserved g c = record {
  count = omega (arith, ap length c.in_ok-push.ensures.items, length-append c.loop-i.rows.items (c.in_ok-row.row ∷ []), c.loop-i.invariant.count);
  rows = subst (All (IsRowFor c.args.size)) (sym c.in_ok-push.ensures.items) (All-push (IsRowFor c.args.size) c.loop-i.rows.items c.in_ok-row.row c.loop-i.invariant.rows (c.in_ok-row.ensures.items, c.in_ok-row.ensures.capacity));
}
