use Rattle.std.proofs.Common.{◌≡◌, take}
use Rattle.plan_live.specs.Playing.{GuardsStand}
use Rattle.plan_live.specs.Resumed.{states_in, states_so_far}
use Rattle.plan_live.specs.Scripts.{Accepted}
use Rattle.plan_live.proofs.judge.states_of.Given as goal

abbrev pub invariant-loop-place : goal.invariant-loop-place
invariant-loop-place l = (before : Accepted) → GuardsStand l.nodes l.guards before → states_in l.states.items ≡ states_so_far (take l.place l.nodes) before
