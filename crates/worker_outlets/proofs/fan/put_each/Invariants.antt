use Rattle.std.proofs.Common.{◌≡◌, true, false}
use Rattle.worker_outlets.specs.Outlets.{PutSoFar, NonePending, SomePending}
use Rattle.worker_outlets.proofs.fan.put_each.Given as goal

abbrev pub invariant-loop-i : goal.invariant-loop-i
invariant-loop-i g l = PutSoFar l.fn.list.items l.list.items l.moved l.i × (l.pending ≡ false → NonePending l.list.items l.i) × (l.pending ≡ true → SomePending l.list.items l.i)
