use Rattle.std.proofs.Common.{◌≡◌, ◌<◌, true, ℕ, slice_index_or}
use Rattle.node_laws.specs.Lawful.{is_over}
use Rattle.worker_outlets.specs.Outgoing.{Outgoing}
use Rattle.worker_outlets.proofs.fan.all_over.Given as goal

abbrev pub invariant-loop-i : goal.invariant-loop-i
invariant-loop-i l = (k : ℕ) (d : Outgoing) → k < l.i → is_over (slice_index_or l.list.items k d).sent ≡ true
