use Rattle.cedr_expr.specs.Tags.{left_tag, right_tag}
use Rattle.pat_state.specs.Starts.{scope_reaches}
use Rattle.pat_state.proofs.BagLemmas.{bag_left, have_left}
use Rattle.pat_state.proofs.HeldLemmas.{held_reach}
use Rattle.pat_state.proofs.tied.Tied.forget.Goals as goal

pub returns-clause-tied : goal.returns-clause-tied
returns-clause-tied c = λ tests tied. record {
  left_are = have_left (left_tag c.args.self.now.width tests) (scope_reaches c.args.scope c.args.time) c.args.self.now.left.tags c.forget.new.self.tags c.forget.ensures.left tied.left_are;
  right_are = have_left (right_tag c.args.self.now.width tests) (scope_reaches c.args.scope c.args.time) c.args.self.now.right.tags c.forget-2.new.self.tags c.forget-2.ensures.left tied.right_are;
}

pub returns-clause-left : goal.returns-clause-left
returns-clause-left c = bag_left c.args.scope c.args.time c.args.self.now.left.tags c.forget.new.self.tags c.forget.ensures.left

pub returns-clause-right : goal.returns-clause-right
returns-clause-right c = bag_left c.args.scope c.args.time c.args.self.now.right.tags c.forget-2.new.self.tags c.forget-2.ensures.left

pub returns-clause-held : goal.returns-clause-held
returns-clause-held c =
    let tied = c.args.self.now in (
      held_reach c.args.scope c.args.time tied.left.tags c.forget.new.self.tags c.forget.new.self.due c.forget.ensures.left c.forget.ensures.reach,
      held_reach c.args.scope c.args.time tied.right.tags c.forget-2.new.self.tags c.forget-2.new.self.due c.forget-2.ensures.left c.forget-2.ensures.reach,
    )
