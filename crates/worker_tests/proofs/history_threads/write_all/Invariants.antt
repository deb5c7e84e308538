use Rattle.std.proofs.Common.{◌≡◌, false}
use Rattle.cedr_history.specs.declared.close.Close.TheVariants.{Open}
use Rattle.worker_tests.proofs.history_threads.write_all.Given as goal

abbrev pub invariant-loop-k : goal.invariant-loop-k
invariant-loop-k g l = (l.writer.all.close ≡ Open) × (l.writer.concluded ≡ false) × (l.writer.history ≡ l.initial.writer.history)
