use Rattle.cedr_plan.proofs.PlaceLemmas.{nodes_planned}
use Rattle.cedr_plan.proofs.SoundPlans.{plan_sound}
use Rattle.cedr_plan.proofs.law.sound_plans.Goals as goal

pub returns-clause-described : goal.returns-clause-described
returns-clause-described c = plan_sound

pub returns-clause-planned : goal.returns-clause-planned
returns-clause-planned c = nodes_planned
