use Rattle.std.proofs.Common.{Bool, Result, Ok, Err, refl, ap, sym, ◌∙◌, subst}
use Rattle.std.proofs.lemmas.Result.{err_from_is_err_and}
use Rattle.cedr_script.specs.Cutters.{begun_of}
use Rattle.plan_follow.proofs.HeldLemmas.{first_up_to, ends_early}
use Rattle.plan_follow.proofs.script.follow_lines.Goals as goal
use Rattle.plan_follow.specs.Following.{FollowsOn}
use Rattle.plan_follow.specs.Holding.{FollowsNext, followed}
use Rattle.plan_follow.specs.Sending.{outside_of}
use Rattle.plan_follow.specs.declared.fault.FollowFault.{FollowFault}

pub loop-init : goal.loop-init
loop-init g c = record {
  up_to = λ before start at. first_up_to (followed c.args.nodes.now c.args.shapes.now c.args.name.now before start) (begun_of c.new-cutter.result) c.args.follower (outside_of g.W.Wire.rest g.W.Wire.written g.W.Wire.log g.E.Sink.faults g.E.Sink.written c.args.wire.now c.args.err.now) c.new-cutter.ensures at c.requires.clear;
  reads = refl;
  writes = refl;
  loans = refl;
}

pub follow_next-requires-clause-up_to : goal.follow_next-requires-clause-up_to
follow_next-requires-clause-up_to g c =
    let r = c.requires.stands in
    (r.0, r.1, outside_of g.W.Wire.rest g.W.Wire.written g.W.Wire.log g.E.Sink.faults g.E.Sink.written c.args.wire.now c.args.err.now, c.loop.invariant.up_to r.0 r.1 r.2)

pub returns-in_err-follow_next-clause-followed : goal.returns-in_err-follow_next-clause-followed
returns-in_err-follow_next-clause-followed g c = λ before start at.
    let f = followed c.args.nodes.now c.args.shapes.now c.args.name.now before start in
    let old = outside_of g.W.Wire.rest g.W.Wire.written g.W.Wire.log g.E.Sink.faults g.E.Sink.written c.args.wire.now c.args.err.now in
    let new = outside_of g.W.Wire.rest g.W.Wire.written g.W.Wire.log g.E.Sink.faults g.E.Sink.written c.follow_next.new.wire c.follow_next.new.err in
    let q = err_from_is_err_and c.from_residual.result c.from_residual.ensures.1 in
    subst (λ (r : Result Bool FollowFault). FollowsOn r f.nodes f.first f.start f.name old new) (sym (q.1 ∙ ap (λ e. Err e) q.2))
    (c.in_err-follow_next.ensures.followed before start old (c.loop.invariant.up_to before start at))

pub returns-then-branch-clause-followed : goal.returns-then-branch-clause-followed
returns-then-branch-clause-followed g c = λ before start at.
    let f = followed c.args.nodes.now c.args.shapes.now c.args.name.now before start in
    let old = outside_of g.W.Wire.rest g.W.Wire.written g.W.Wire.log g.E.Sink.faults g.E.Sink.written c.args.wire.now c.args.err.now in
    let new = outside_of g.W.Wire.rest g.W.Wire.written g.W.Wire.log g.E.Sink.faults g.E.Sink.written c.follow_next.new.wire c.follow_next.new.err in
    subst (λ (b : Bool). FollowsNext (Ok b) f (begun_of c.follow_next.new.cutter) c.follow_next.new.follower old new) c.if-branch.true
    (c.in_ok-follow_next.ensures.followed before start old (c.loop.invariant.up_to before start at))

pub loop-preserved : goal.loop-preserved
loop-preserved g c = record {
  up_to = λ before start at.
      let f = followed c.args.nodes.now c.args.shapes.now c.args.name.now before start in
      let old = outside_of g.W.Wire.rest g.W.Wire.written g.W.Wire.log g.E.Sink.faults g.E.Sink.written c.args.wire.now c.args.err.now in
      let new = outside_of g.W.Wire.rest g.W.Wire.written g.W.Wire.log g.E.Sink.faults g.E.Sink.written c.follow_next.new.wire c.follow_next.new.err in
      subst (λ (b : Bool). FollowsNext (Ok b) f (begun_of c.follow_next.new.cutter) c.follow_next.new.follower old new) c.if-branch.false
      (c.in_ok-follow_next.ensures.followed before start old (c.loop.invariant.up_to before start at));
  reads = c.in_ok-follow_next.ensures.reads ∙ c.loop.invariant.reads;
  writes = c.in_ok-follow_next.ensures.writes ∙ c.loop.invariant.writes;
  loans = c.in_ok-follow_next.ensures.loans ∙ c.loop.invariant.loans;
}

pub returns-clause-followed : goal.returns-clause-followed
returns-clause-followed g c = λ before start at.
    let f = followed c.args.nodes.now c.args.shapes.now c.args.name.now before start in
    ends_early f c.requires.types (begun_of c.loop.cutter) c.loop.follower (outside_of g.W.Wire.rest g.W.Wire.written g.W.Wire.log g.E.Sink.faults g.E.Sink.written c.args.wire.now c.args.err.now) (outside_of g.W.Wire.rest g.W.Wire.written g.W.Wire.log g.E.Sink.faults g.E.Sink.written c.loop.wire c.loop.err) (c.loop.invariant.up_to before start at)
