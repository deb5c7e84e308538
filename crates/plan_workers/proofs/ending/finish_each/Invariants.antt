use Rattle.std.proofs.Common.{◌≡◌, ◌≤◌, length}
use Rattle.std.specs.Vec.{vec_len, vec_capacity}
use Rattle.plan_workers.proofs.ClosingLemmas.{AllEndSo}
use Rattle.plan_workers.proofs.ending.finish_each.Given as goal

abbrev pub invariant-loop-worker : goal.invariant-loop-worker
invariant-loop-worker g l = AllEndSo g.S.Source.rest g.S.Source.faults l.yielded l.ends.items × (vec_len l.ends ≡ length l.yielded) × (length l.fn.workers.items ≤ vec_capacity l.ends)
