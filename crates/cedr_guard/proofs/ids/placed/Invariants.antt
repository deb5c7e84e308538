use Rattle.std.proofs.Common.{◌≡◌, ◌++◌, drop}
use Rattle.cedr_guard.specs.Ids.{placed_from}
use Rattle.cedr_guard.proofs.ids.placed.Given as goal

abbrev pub invariant-loop-place : goal.invariant-loop-place
invariant-loop-place l = l.entries.items ++ placed_from l.place (drop l.place l.events) ≡ placed_from 0 l.events
