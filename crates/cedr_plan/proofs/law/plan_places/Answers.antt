use Rattle.cedr_plan.proofs.PlaceLemmas.{place_among, output_among, sources_behind}
use Rattle.cedr_plan.proofs.law.plan_places.Goals as goal

pub returns-clause-within : goal.returns-clause-within
returns-clause-within c = place_among

pub returns-clause-output : goal.returns-clause-output
returns-clause-output c = output_among

pub returns-clause-sources : goal.returns-clause-sources
returns-clause-sources c = sources_behind
