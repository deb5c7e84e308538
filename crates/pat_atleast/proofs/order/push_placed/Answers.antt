use Rattle.std.proofs.Common.{◌++◌, length, ap, arith}
use Rattle.std.proofs.lemmas.List.{map-id}
use Rattle.pat_atleast.specs.Arrangements.{placed}
use Rattle.pat_atleast.proofs.PlaceLemmas.{one_placed}
use Rattle.pat_atleast.proofs.order.push_placed.Goals as goal

pub loop-place-init : goal.loop-place-init
loop-place-init c = record {
  so_far = ap (λ rest. c.args.orders.now.items ++ rest) (map-id (placed c.args.port c.args.order.now));
  within = omega arith;
}

pub loop-place-preserved : goal.loop-place-preserved
loop-place-preserved c =
    let more = c.loop-place-test.true in
    let last = ap length c.ports-last.ensures in
    record {
      so_far = one_placed c.args.port c.loop-place.place c.args.order.now c.in_ok-longer.longer c.loop-place.orders.items c.push.new.self.items _ (omega (arith, more, last)) c.in_ok-push.ensures.items c.in_ok-longer.ensures c.loop-place.invariant.so_far;
      within = omega (arith, more);
    }
