use Rattle.std.proofs.Common.{inr, List, sym, subst}
use Rattle.cedr_plan.specs.declared.plan.PlanNode.{PlanNode}
use Rattle.plan_follow.proofs.following.follow_from.Goals as goal
use Rattle.plan_follow.specs.Followers.{FollowerAt, nothing_gone}
use Rattle.plan_follow.specs.Following.{FollowsOn}
use Rattle.plan_follow.specs.Sending.{outside_of}
use Rattle.plan_follow.specs.Sifted.{sifted_behind}
use Rattle.plan_live.specs.Resumed.{lines_from, states_in}

pub follow_lines-requires-clause-stands : goal.follow_lines-requires-clause-stands
follow_lines-requires-clause-stands g c =
    let first = sifted_behind (lines_from c.args.plan.now.nodes.items (states_in c.args.states.now)) in
    let stands = c.in_ok-follower.ensures.stands in
    (first, stands.0, subst (λ (nodes : List PlanNode). FollowerAt nodes c.args.name.now c.in_ok-follower.follower first stands.0 nothing_gone) (sym c.as_slice-nodes.ensures.value) (stands.2 c.args.name.now))

pub returns-clause-followed : goal.returns-clause-followed
returns-clause-followed g c =
    let first = sifted_behind (lines_from c.args.plan.now.nodes.items (states_in c.args.states.now)) in
    let stands = c.in_ok-follower.ensures.stands in
    let old = outside_of g.W.Wire.rest g.W.Wire.written g.W.Wire.log g.E.Sink.faults g.E.Sink.written c.args.wire.now c.args.err.now in
    let new = outside_of g.W.Wire.rest g.W.Wire.written g.W.Wire.log g.E.Sink.faults g.E.Sink.written c.follow_lines.new.wire c.follow_lines.new.err in
    inr (
      stands.0,
      stands.1,
      subst (λ (nodes : List PlanNode). FollowsOn c.follow_lines.result nodes first stands.0 c.args.name.now old new) c.as_slice-nodes.ensures.value
          (c.follow_lines.ensures.followed first stands.0 (subst (λ (nodes : List PlanNode). FollowerAt nodes c.args.name.now c.in_ok-follower.follower first stands.0 nothing_gone) (sym c.as_slice-nodes.ensures.value) (stands.2 c.args.name.now))),
    )
