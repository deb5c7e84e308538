use Rattle.std.proofs.Common.{◌<◌, length, ap, sym, ◌∙◌, subst, arith}
use Rattle.cedr_guard.specs.declared.guard.Guard.{Guard}
use Rattle.cedr_guard.specs.Standing.{Guards}
use Rattle.plan_live.specs.Resumed.{states_in}
use Rattle.plan_live.specs.Scripts.{lines_at}
use Rattle.plan_live.proofs.JudgeLemmas.{source_state, no_state}
use Rattle.plan_live.proofs.judge.states_of.Goals as goal
use Rattle.plan_live.proofs.judge.states_of.Goals.{then-is_source+in_ok-state+in_ok-push, else-is_source}

pub loop-place-preserved : goal.loop-place-preserved
loop-place-preserved c = λ before stands.
    let nodes = c.args.nodes.now in
    let place = c.loop-place.place in
    let n = c.index-nodes-place.result in
    let old = c.loop-place.states.items in
    let within : place < length nodes = omega (arith, c.loop-place-test.true) in
    let so_far = c.loop-place.invariant before stands in
    elim c.if-is_source.branch [
      | then-is_source+in_ok-state+in_ok-push w ↦
          let guard = w.index-guards-place.result in
          let stands_here = subst (λ (g : Guard). Guards g (lines_at before place)) (sym w.index-guards-place.is) (stands.each place guard within) in
          ap (λ v. states_in v.items) w.states-is
          ∙ source_state nodes before place n stands.lines_count within c.index-nodes-place.is old so_far (sym w.if-is_source.ensures) _ _ (w.in_ok-state.ensures (lines_at before place) stands_here) w.in_ok-push.ensures.items
      | else-is_source w ↦ ap (λ v. states_in v.items) w.states-is ∙ no_state nodes before place n stands.lines_count within c.index-nodes-place.is old so_far (sym w.if-is_source.ensures)
    ]
