use Rattle.std.proofs.Common.{List, Result, Err, Vec, ap, sym, ◌∙◌, subst, arith}
use Rattle.std.specs.Global.{Global}
use Rattle.std.proofs.lemmas.Result.{err_from_is_err_and}
use Rattle.cedr_guard.specs.declared.guard.Guard.{Guard}
use Rattle.cedr_guard.specs.declared.state.SourceState.{SourceState}
use Rattle.cedr_plan.specs.declared.plan.PlanNode.{PlanNode}
use Rattle.plan_live.specs.declared.fault.ScriptFault.{ScriptFault}
use Rattle.plan_live.specs.Judged.{ComesToStates, JudgesScript}
use Rattle.plan_live.specs.Playing.{GuardsStand}
use Rattle.plan_live.specs.Resumed.{states_in}
use Rattle.plan_live.specs.Scripts.{ShapesHaveTypes, no_lines, played}
use Rattle.plan_live.proofs.GuardLemmas.{none_stand}
use Rattle.plan_live.proofs.JudgeLemmas.{script_fault_is}
use Rattle.plan_live.proofs.judge.script_states.Goals as goal

pub judge_script-requires-clause-stands : goal.judge_script-requires-clause-stands
judge_script-requires-clause-stands c =
    let nodes = c.as_slice-nodes.result.now in
    (no_lines nodes, none_stand nodes c.in_ok-guards.guards.items (omega (arith, c.in_ok-guards.ensures.count)) c.in_ok-guards.ensures.none)

pub returns-in_err-judge_script : goal.returns-in_err-judge_script
returns-in_err-judge_script c =
    let nodes = c.as_slice-nodes.result.now in
    let script = c.args.script.now in
    let fault = c.in_err-judge_script.field-0.0 in
    let types = subst (ShapesHaveTypes nodes) (sym c.as_slice.ensures.value) c.in_ok-shapes.ensures in
    let stands = none_stand nodes c.in_ok-guards.guards.items (omega (arith, c.in_ok-guards.ensures.count)) c.in_ok-guards.ensures.none in
    let judged = script_fault_is fault nodes c.as_slice.result.now script c.judge_script.new.guards.items types (c.in_err-judge_script.ensures (no_lines nodes) stands) in
    let q = err_from_is_err_and c.from_residual-in_err-judge_script.result c.from_residual-in_err-judge_script.ensures.1 in
    subst (λ (ns : List PlanNode). JudgesScript c.from_residual-in_err-judge_script.result ns script) c.as_slice-nodes.ensures.value
    (subst (λ (r : Result (Vec SourceState Global) ScriptFault). JudgesScript r nodes script) (sym (q.1 ∙ ap (λ f. Err f) q.2)) judged)

pub states_of-requires : goal.states_of-requires
states_of-requires c =
    let nodes = c.as_slice-nodes.result.now in
    let lines = (played nodes c.as_slice.result.now c.args.script.now).lines in
    let stands = none_stand nodes c.in_ok-guards.guards.items (omega (arith, c.in_ok-guards.ensures.count)) c.in_ok-guards.ensures.none in
    (lines, subst (λ (gs : List Guard). GuardsStand nodes gs lines) (sym c.deref.ensures.value) (c.in_ok-judge_script.ensures (no_lines nodes) stands).1)

pub returns : goal.returns
returns c =
    let nodes = c.as_slice-nodes.result.now in
    let shapes = c.as_slice.result.now in
    let script = c.args.script.now in
    let states = states_in c.in_ok-states_of.field-0.items in
    let lines = (played nodes shapes script).lines in
    let stands = none_stand nodes c.in_ok-guards.guards.items (omega (arith, c.in_ok-guards.ensures.count)) c.in_ok-guards.ensures.none in
    let judged = c.in_ok-judge_script.ensures (no_lines nodes) stands in
    let there : ComesToStates nodes script states = record {
      shapes = shapes;
      types = subst (ShapesHaveTypes nodes) (sym c.as_slice.ensures.value) c.in_ok-shapes.ensures;
      accepted = judged.0;
      states_are = c.in_ok-states_of.ensures lines (subst (λ (gs : List Guard). GuardsStand nodes gs lines) (sym c.deref.ensures.value) judged.1);
    } in
    subst (λ (ns : List PlanNode). ComesToStates ns script states) c.as_slice-nodes.ensures.value there
