use Rattle.std.proofs.Common.{◌≡◌, length, map}
use Rattle.std.specs.Vec.{vec_len, vec_capacity}
use Rattle.worker_outlets.specs.Outlets.{opened}
use Rattle.worker_outlets.proofs.fan.outlets_of.Given as goal

abbrev pub invariant-loop-edge : goal.invariant-loop-edge
invariant-loop-edge l = (l.list.items ≡ map opened l.yielded) × (vec_len l.list ≡ length l.yielded) × (vec_capacity l.list ≡ length l.fn.edges.items)
