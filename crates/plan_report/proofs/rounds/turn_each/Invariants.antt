use Rattle.std.proofs.Common.{◌≡◌, ◌<◌, ℕ, true, List, length, slice_index_or}
use Rattle.plan_workers.specs.Roles.{Role, AllWorkAs, HasEnded}
use Rattle.plan_workers.specs.declared.worker.Worker.{Worker}
use Rattle.plan_report.proofs.rounds.turn_each.Given as goal

-- each worker is still what it was made for, and the first ones have ended where each answered so
abbrev pub invariant-loop-i : goal.invariant-loop-i
invariant-loop-i g l = record {
  works : (roles : List Role) → AllWorkAs g.S.Source.rest g.S.Source.faults roles l.fn.workers.items → AllWorkAs g.S.Source.rest g.S.Source.faults roles l.workers.items;
  count : length l.workers.items ≡ length l.fn.workers.items;
  over : l.ended ≡ true → (k : ℕ) (d : Worker _ _) → k < l.i → HasEnded (slice_index_or l.workers.items k d);
}
