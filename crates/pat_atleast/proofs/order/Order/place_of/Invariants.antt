use Rattle.std.proofs.Common.{◌≡◌, ◌+◌, drop}
use Rattle.pat_atleast.specs.Finding.{order_place}
use Rattle.pat_atleast.proofs.order.Order.place_of.Given as goal

abbrev pub invariant-loop-place : goal.invariant-loop-place
invariant-loop-place l = order_place l.port l.ports ≡ l.place + order_place l.port (drop l.place l.ports)
