use Rattle.std.proofs.Common.{◌≡◌}
use Rattle.test_feeding.specs.Came.{CameFor}
use Rattle.cedr_worker.specs.OutputTurns.{OutputWorks}
use Rattle.worker_tests.proofs.outputs.play.Given as goal

abbrev pub invariant-loop-i : goal.invariant-loop-i
invariant-loop-i g l = OutputWorks l.made.worker × CameFor l.made.one.came l.made.one.out.sent × (l.made.reader.history ≡ l.made.worker.writer.history)
