use Rattle.std.proofs.Common.{◌≡◌, ◌≤◌, ◌++◌, map, take, drop}
use Rattle.pat_atleast.specs.Arrangements.{placed}
use Rattle.pat_atleast.proofs.order.push_placed.Given as goal

abbrev pub invariant-loop-place : goal.invariant-loop-place
invariant-loop-place l = record {
  so_far : l.orders.items ++ map (λ zs. take l.place l.order ++ zs) (placed l.port (drop l.place l.order)) ≡ l.initial.orders.items ++ placed l.port l.order;
  within : l.place ≤ l.last;
}
