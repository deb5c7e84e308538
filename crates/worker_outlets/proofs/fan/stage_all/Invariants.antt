use Rattle.std.proofs.Common.{◌≡◌, [], map}
use Rattle.worker_outlets.specs.Outlets.{bare, total_of, AllStaged}
use Rattle.worker_outlets.proofs.fan.stage_all.Given as goal

abbrev pub invariant-loop-message : goal.invariant-loop-message
invariant-loop-message l =
    (map bare l.list.items ≡ map bare l.fn.list.items) × (map total_of l.list.items ≡ map total_of l.fn.list.items)
    × (AllStaged [] l.fn.list.items → AllStaged l.yielded l.list.items)
