use Rattle.test_feeding.specs.Came.{CameFor}
use Rattle.cedr_worker.specs.Workers.{IsWorking}
use Rattle.worker_tests.proofs.operators.play.Given as goal

abbrev pub invariant-loop-i : goal.invariant-loop-i
invariant-loop-i g l = IsWorking l.made.worker × CameFor l.made.left.came l.made.left.out.sent × CameFor l.made.right.came l.made.right.out.sent
