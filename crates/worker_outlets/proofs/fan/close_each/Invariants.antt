use Rattle.std.proofs.Common.{◌≡◌, ◌++◌, ◌∷◌, [], List, map}
use Rattle.cedr_base.specs.declared.change.Message.{Message}
use Rattle.worker_outlets.specs.Outgoing.{Outgoing, last_message}
use Rattle.worker_outlets.specs.Rounds.{Swept}
use Rattle.worker_outlets.specs.Outlets.{bare, total_of, AllTotal}
use Rattle.worker_outlets.proofs.fan.close_each.Given as goal

abbrev pub invariant-loop-i : goal.invariant-loop-i
invariant-loop-i l =
    (map bare l.list.items ≡ map bare l.fn.list.items)
    × ((given : List Message) → AllTotal given l.fn.list.items → Swept (λ (o : Outgoing). total_of o ≡ given ++ last_message l.last ∷ []) (λ (o : Outgoing). total_of o ≡ given) l.list.items l.i)
