use Rattle.std.proofs.Common.{◌≡◌, ◌++◌, [], List, map}
use Rattle.cedr_base.specs.declared.change.Message.{Message}
use Rattle.worker_outlets.specs.Outgoing.{Outgoing}
use Rattle.worker_outlets.specs.Rounds.{Swept}
use Rattle.worker_outlets.specs.Outlets.{bare, total_of, AllTotal, AllStaged}
use Rattle.worker_outlets.proofs.fan.commit_each.Given as goal

abbrev pub invariant-loop-i : goal.invariant-loop-i
invariant-loop-i l =
    (map bare l.list.items ≡ map bare l.fn.list.items)
    × ((given piece : List Message) → AllTotal given l.fn.list.items → AllStaged piece l.fn.list.items
    → Swept (λ (o : Outgoing). (total_of o ≡ given ++ piece) × (o.staged ≡ [])) (λ (o : Outgoing). (total_of o ≡ given) × (o.staged ≡ piece)) l.list.items l.i)
