use Rattle.std.proofs.lemmas.Result.{IfOk-weaker}
use Rattle.cedr_plan.specs.Drawn.{drawn}
use Rattle.cedr_plan.proofs.SoundPlans.{plan_sound}
use Rattle.cedr_plan.proofs.PlainPlans.{plan_plain}
use Rattle.cedr_plan.proofs.reader.read_plan.Goals as goal

pub returns-clause-sound : goal.returns-clause-sound
returns-clause-sound c = IfOk-weaker c.plan_of.result _ _ (λ plan described. plan_sound c.args.bytes.now (drawn plan) described) c.plan_of.ensures.plan

pub returns-clause-plain : goal.returns-clause-plain
returns-clause-plain c = IfOk-weaker c.plan_of.result _ _ (λ plan described. plan_plain c.args.bytes.now (drawn plan) described) c.plan_of.ensures.plan
