use Rattle.plan_keys.proofs.Query.{parted_query}
use Rattle.plan_keys.proofs.Shares.{shared_is}
use Rattle.plan_keys.proofs.law.keyed_plans.Goals as goal

pub returns-clause-parts : goal.returns-clause-parts
returns-clause-parts c = λ mine columns nodes sources are keyed fit. parted_query nodes sources fit mine columns are keyed

pub returns-clause-sum : goal.returns-clause-sum
returns-clause-sum c = λ shares columns nodes sources are keyed fit divided. shared_is columns nodes sources shares are keyed fit divided
