use Rattle.std.proofs.Common.{◌≡◌, ◌++◌, ◌∷◌, [], List, map}
use Rattle.cedr_base.specs.declared.change.Message.{Message}
use Rattle.worker_outlets.specs.Outlets.{bare, total_of, AllStaged, StagedUpTo}
use Rattle.worker_outlets.proofs.fan.stage_copies.Given as goal

abbrev pub invariant-loop-i : goal.invariant-loop-i
invariant-loop-i l =
    (map bare l.list.items ≡ map bare l.fn.list.items) × (map total_of l.list.items ≡ map total_of l.fn.list.items)
    × ((staged : List Message) → AllStaged staged l.fn.list.items → StagedUpTo (staged ++ l.fn.message ∷ []) staged l.list.items l.i)
