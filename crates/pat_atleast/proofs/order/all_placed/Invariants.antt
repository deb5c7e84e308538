use Rattle.std.proofs.Common.{◌≡◌, take}
use Rattle.std.specs.List.{flat_map}
use Rattle.pat_atleast.specs.Arrangements.{placed}
use Rattle.pat_atleast.proofs.order.all_placed.Given as goal

abbrev pub invariant-loop-order : goal.invariant-loop-order
invariant-loop-order l = l.orders.items ≡ flat_map (placed l.port) (take l.order-index l.fewer)
