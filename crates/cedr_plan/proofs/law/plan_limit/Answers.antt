use Rattle.std.proofs.Common.{cond, length, ap}
use Rattle.std.proofs.lemmas.Bool.{lt-ltb}
use Rattle.cedr_plan.specs.Drawn.{Drawn}
use Rattle.cedr_plan.specs.Plans.{plan_of, plan_of_json, json_of, refused, longest}
use Rattle.cedr_plan.specs.declared.fault.PlanKind.TheVariants as kind
use Rattle.cedr_plan.proofs.law.plan_limit.Goals as goal

pub returns-clause-long : goal.returns-clause-long
unfolding plan_of
returns-clause-long c = λ bytes over. ap (λ test. cond test (refused {T = Drawn} kind.TooLong 0) (plan_of_json (json_of bytes))) (lt-ltb longest (length bytes) over)
