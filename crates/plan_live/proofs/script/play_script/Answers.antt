use Rattle.std.proofs.Common.{List, Option, Result, sym, subst, arith}
use Rattle.std.proofs.lemmas.List.{length-take}
use Rattle.std.proofs.lemmas.Result.{err_from_is_err_and}
use Rattle.cedr_guard.specs.declared.refusal.Refusal.{Refusal}
use Rattle.cedr_guard.specs.declared.refusal.TheConstants.{FILE_LIMIT}
use Rattle.cedr_io.specs.declared.fault.OutsideFault.{OutsideFault}
use Rattle.cedr_plan.specs.declared.plan.PlanNode.{PlanNode}
use Rattle.plan_live.specs.Plays.{PlaysAfter}
use Rattle.plan_live.specs.Scripts.{ShapesHaveTypes}
use Rattle.plan_live.proofs.ScriptLemmas.{played_small, played_large, plays_as, plays_none}
use Rattle.plan_live.proofs.script.play_script.Goals as goal

pub returns-in_err-shapes-clause-played : goal.returns-in_err-shapes-clause-played
returns-in_err-shapes-clause-played g c = λ before stands.
    let nodes = c.args.plan.now.nodes.items in
    let old = g.K.Sink.written c.args.out.now in
    let q = err_from_is_err_and c.from_residual.result c.from_residual.ensures.1 in
    subst (λ (r : Result (Option Refusal) OutsideFault). PlaysAfter r nodes before c.args.script.now old old) (sym q.1) (plays_none nodes before c.args.script.now old q.0)

pub slice_bounds-play_lines-end : goal.slice_bounds-play_lines-end
slice_bounds-play_lines-end g c = omega (arith, c.if-script-gt-FILE_LIMIT.true, length-take FILE_LIMIT c.args.script.now)

pub play_lines-requires-clause-limit : goal.play_lines-requires-clause-limit
play_lines-requires-clause-limit g c = omega (arith, length-take FILE_LIMIT c.args.script.now)

pub returns-then-script-gt-FILE_LIMIT-clause-played : goal.returns-then-script-gt-FILE_LIMIT-clause-played
returns-then-script-gt-FILE_LIMIT-clause-played g c = λ before stands.
    let nodes = c.args.plan.now.nodes.items in
    let slice = c.as_slice-then-script-gt-FILE_LIMIT in
    let types = subst (ShapesHaveTypes nodes) (sym slice.ensures.value) (subst (λ (ns : List PlanNode). ShapesHaveTypes ns c.in_ok-shapes.shapes.items) c.as_slice.ensures.value c.in_ok-shapes.ensures) in
    plays_as c.play_lines.result nodes slice.result.now before c.args.script.now _ _ _ types (played_large nodes slice.result.now before c.args.script.now c.if-script-gt-FILE_LIMIT.true) (c.play_lines.ensures.played before stands)

pub returns-clause-played : goal.returns-clause-played
returns-clause-played g c = λ before stands.
    let nodes = c.args.plan.now.nodes.items in
    let slice = c.as_slice-else-script-gt-FILE_LIMIT in
    let types = subst (ShapesHaveTypes nodes) (sym slice.ensures.value) (subst (λ (ns : List PlanNode). ShapesHaveTypes ns c.in_ok-shapes.shapes.items) c.as_slice.ensures.value c.in_ok-shapes.ensures) in
    plays_as c.play_lines-else-script-gt-FILE_LIMIT.result nodes slice.result.now before c.args.script.now _ _ _ types (played_small nodes slice.result.now before c.args.script.now c.if-script-gt-FILE_LIMIT.false) (c.play_lines-else-script-gt-FILE_LIMIT.ensures.played before stands)
