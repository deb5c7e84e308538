use Rattle.plan_runs.proofs.Partial.{partial_run, source_at}
use Rattle.plan_runs.proofs.laws.partial_runs.Goals as goal

pub returns-clause-whole : goal.returns-clause-whole
returns-clause-whole c = partial_run

pub returns-clause-sources : goal.returns-clause-sources
returns-clause-sources c = source_at
