use Rattle.std.proofs.Common.{◌≡◌, ◌<◌, true, ℕ, length, slice_index_or}
use Rattle.cedr_edge.specs.Ends.{InEnd}
use Rattle.node_laws.specs.Lawful.{is_over}
use Rattle.cedr_worker.proofs.taking.all_closed.Given as goal

abbrev pub invariant-loop-i : goal.invariant-loop-i
invariant-loop-i l = (k : ℕ) (d : InEnd) → k < l.i → k < length l.inputs.items → is_over (slice_index_or l.inputs.items k d).taken ≡ true
