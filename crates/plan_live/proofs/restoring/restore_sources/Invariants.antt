use Rattle.plan_live.specs.Resumed.{states_in}
use Rattle.plan_live.proofs.RestoreLemmas.{IsOnTheWayTo}
use Rattle.plan_live.proofs.restoring.restore_sources.Given as goal

abbrev pub invariant-loop-place : goal.invariant-loop-place
invariant-loop-place g l = IsOnTheWayTo l.nodes (states_in l.states) l.place l.number (g.R.Restores.stands l.nodes l.restored)
