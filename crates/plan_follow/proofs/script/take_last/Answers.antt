use Rattle.std.proofs.Common.{ℕ, List, Option, ap, ◌∙◌, subst}
use Rattle.std.proofs.lemmas.Result.{on_ok_weaker}
use Rattle.cedr_script.specs.Cutting.{step_answers}
use Rattle.plan_follow.specs.Followers.{FollowsLines}
use Rattle.plan_follow.proofs.script.take_last.Goals as goal

pub returns : goal.returns
returns c = on_ok_weaker c.take_step.result (λ takes.
    subst (λ (answers : List (Option (List ℕ))). FollowsLines c.args.nodes.now c.args.shapes.now c.args.name.now c.args.follower.now c.take_step.new.self answers) (ap (step_answers c.in_ok-step.step) c.deref.ensures.value ∙ c.in_ok-step.ensures.answered) takes)
    c.take_step.ensures
