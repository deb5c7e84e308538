use Rattle.std.proofs.Common.{[], Bool, List, Result, Err, ap, sym, ◌∙◌, subst}
use Rattle.std.proofs.lemmas.Result.{err_from_is_err_and}
use Rattle.cedr_plan.specs.declared.plan.PlanNode.{PlanNode}
use Rattle.plan_follow.proofs.HeldLemmas.{nothing_done}
use Rattle.plan_follow.proofs.following.follow.Goals as goal
use Rattle.plan_follow.specs.Followers.{FollowerAt, nothing_gone}
use Rattle.plan_follow.specs.Following.{FollowsOn}
use Rattle.plan_follow.specs.Sending.{outside_of}
use Rattle.plan_follow.specs.Sifted.{sifted_behind}
use Rattle.plan_follow.specs.declared.fault.FollowFault.{FollowFault}
use Rattle.plan_live.specs.Scripts.{no_lines}

pub returns-in_err-follower-clause-followed : goal.returns-in_err-follower-clause-followed
returns-in_err-follower-clause-followed g c =
    let nodes = c.args.plan.now.nodes.items in
    let now = outside_of g.W.Wire.rest g.W.Wire.written g.W.Wire.log g.E.Sink.faults g.E.Sink.written c.args.wire.now c.args.err.now in
    let q = err_from_is_err_and c.from_residual.result c.from_residual.ensures.1 in
    subst (λ (r : Result Bool FollowFault). FollowsOn r nodes (sifted_behind (no_lines nodes)) [] c.args.name.now now now) (sym (q.1 ∙ ap (λ e. Err e) q.2)) (nothing_done nodes (sifted_behind (no_lines nodes)) [] c.args.name.now now)

pub returns-in_err-shapes-clause-followed : goal.returns-in_err-shapes-clause-followed
returns-in_err-shapes-clause-followed g c =
    let nodes = c.args.plan.now.nodes.items in
    let now = outside_of g.W.Wire.rest g.W.Wire.written g.W.Wire.log g.E.Sink.faults g.E.Sink.written c.args.wire.now c.args.err.now in
    let q = err_from_is_err_and c.from_residual-in_err-shapes.result c.from_residual-in_err-shapes.ensures.1 in
    subst (λ (r : Result Bool FollowFault). FollowsOn r nodes (sifted_behind (no_lines nodes)) [] c.args.name.now now now) (sym (q.1 ∙ ap (λ e. Err e) q.2)) (nothing_done nodes (sifted_behind (no_lines nodes)) [] c.args.name.now now)

pub follow_lines-requires-clause-stands : goal.follow_lines-requires-clause-stands
follow_lines-requires-clause-stands g c =
    let first = sifted_behind (no_lines c.args.plan.now.nodes.items) in
    (first, [], subst (λ (nodes : List PlanNode). FollowerAt nodes c.args.name.now c.in_ok-follower.follower first [] nothing_gone) (sym c.as_slice-nodes.ensures.value) (c.in_ok-follower.ensures.stands c.args.name.now))

pub returns-clause-followed : goal.returns-clause-followed
returns-clause-followed g c =
    let first = sifted_behind (no_lines c.args.plan.now.nodes.items) in
    let old = outside_of g.W.Wire.rest g.W.Wire.written g.W.Wire.log g.E.Sink.faults g.E.Sink.written c.args.wire.now c.args.err.now in
    let new = outside_of g.W.Wire.rest g.W.Wire.written g.W.Wire.log g.E.Sink.faults g.E.Sink.written c.follow_lines.new.wire c.follow_lines.new.err in
    subst (λ (nodes : List PlanNode). FollowsOn c.follow_lines.result nodes first [] c.args.name.now old new) c.as_slice-nodes.ensures.value
    (c.follow_lines.ensures.followed first [] (subst (λ (nodes : List PlanNode). FollowerAt nodes c.args.name.now c.in_ok-follower.follower first [] nothing_gone) (sym c.as_slice-nodes.ensures.value) (c.in_ok-follower.ensures.stands c.args.name.now)))
