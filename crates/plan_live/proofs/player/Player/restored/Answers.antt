use Rattle.std.proofs.Common.{[], List, sym, subst}
use Rattle.cedr_plan.specs.declared.plan.PlanNode.{PlanNode}
use Rattle.plan_live.specs.Playing.{PlaysStand}
use Rattle.plan_live.specs.Resumed.{lines_from, states_in, AreStates}
use Rattle.plan_live.specs.Scripts.{no_lines}
use Rattle.plan_live.proofs.player.Player.restored.Goals as goal

pub restore_sources-requires-clause-states : goal.restore_sources-requires-clause-states
restore_sources-requires-clause-states c = subst (λ (ns : List PlanNode). AreStates ns c.args.states.now) (sym c.as_slice.ensures.value) c.requires.states

pub restore_sources-requires-clause-stands : goal.restore_sources-requires-clause-stands
restore_sources-requires-clause-stands c = subst (λ (ns : List PlanNode). PlaysStand ns c.in_ok-player.player (no_lines ns) []) (sym c.as_slice.ensures.value) c.in_ok-player.ensures

pub returns : goal.returns
returns c = subst (λ (ns : List PlanNode). PlaysStand ns c.restore_sources.new.restored (lines_from ns (states_in c.args.states.now)) []) c.as_slice.ensures.value c.in_ok-restore_sources.ensures
