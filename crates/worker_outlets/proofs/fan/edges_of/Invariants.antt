use Rattle.std.proofs.Common.{◌≡◌, ◌≤◌, length, map}
use Rattle.std.specs.Vec.{vec_len, vec_capacity}
use Rattle.worker_outlets.specs.Outlets.{AllOver, outlet_edge, sent_of, total_of, end_edge, end_sent}
use Rattle.worker_outlets.proofs.fan.edges_of.Given as goal

abbrev pub invariant-loop-outlet : goal.invariant-loop-outlet
invariant-loop-outlet l =
    (map end_edge l.edges.items ≡ map outlet_edge l.yielded) × (map end_sent l.edges.items ≡ map sent_of l.yielded)
    × (AllOver l.fn.list.items → map end_sent l.edges.items ≡ map total_of l.yielded)
    × (vec_len l.edges ≡ length l.yielded) × (length l.fn.list.items ≤ vec_capacity l.edges)
