use Rattle.plan_workers.proofs.EndLemmas.{same_sources}
use Rattle.plan_workers.proofs.ends.listed_sources.Goals as goal

pub returns : goal.returns
returns c = same_sources
