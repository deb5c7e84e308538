use Rattle.std.proofs.Common.{ℕ, List, subst}
use Rattle.cedr_io.proofs.Copies.{rest_of}
use Rattle.cedr_script.specs.Cutters.{begun_of}
use Rattle.cedr_script.specs.Cutting.{step_answers}
use Rattle.plan_follow.specs.Followers.{FollowsLines}
use Rattle.plan_follow.specs.Sifted.{sifted}
use Rattle.plan_follow.proofs.PieceLemmas.{more_cut, all_cut}
use Rattle.plan_follow.proofs.script.take_piece.Goals as goal

pub take_step-requires-clause-stands : goal.take_step-requires-clause-stands
take_step-requires-clause-stands c =
    let r = c.requires.stands in
    let is = c.loop-done.invariant in
    (sifted c.args.nodes.now c.args.shapes.now r.0 is.answers, r.1, r.2, is.follows r.0 r.1 r.2 r.3)

pub loop-done-preserved : goal.loop-done-preserved
loop-done-preserved c =
    let nodes = c.args.nodes.now in
    let shapes = c.args.shapes.now in
    let name = c.args.name.now in
    let l = c.loop-done in
    let step = c.in_ok-step.step in
    more_cut nodes shapes name c.args.follower.now l.follower c.take_step.new.self (begun_of c.args.cutter.now) (begun_of l.cutter) (begun_of c.cut.new.self) c.args.piece.now _ l.done c.in_ok-step.count step c.cut.new.line.items l.invariant (rest_of c.args.piece.now l.done) c.in_ok-step.ensures
    (subst (λ (line : List ℕ). FollowsLines nodes shapes name l.follower c.take_step.new.self (step_answers step line)) c.deref.ensures.value c.in_ok-take_step.ensures)

pub returns : goal.returns
returns c = all_cut c.args.nodes.now c.args.shapes.now c.args.name.now c.args.follower.now c.loop-done.follower (begun_of c.args.cutter.now) (begun_of c.loop-done.cutter) c.args.piece.now c.loop-done.done c.loop-done.invariant c.loop-done-test.false
