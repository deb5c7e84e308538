use Rattle.std.proofs.Common.{◌≡◌, true, false}
use Rattle.cedr_history.specs.declared.close.Close.TheVariants.{Open}
use Rattle.worker_tests.proofs.histories.play.Given as goal

abbrev pub invariant-loop-i : goal.invariant-loop-i
invariant-loop-i g l = (l.made.reader.history ≡ l.made.writer.history) × (l.made.writer.concluded ≡ false) × (l.made.going ≡ true → l.made.writer.all.close ≡ Open) × (l.made.writer.all.mark ≡ l.made.mark)
