use Rattle.plan_runs.proofs.Closed.{closed_whole, closed_table}
use Rattle.plan_runs.proofs.Remembered.{remembered}
use Rattle.plan_runs.proofs.laws.closed_runs.Goals as goal

pub returns-clause-whole : goal.returns-clause-whole
returns-clause-whole c = closed_whole

pub returns-clause-tables : goal.returns-clause-tables
returns-clause-tables c = closed_table

pub returns-clause-query : goal.returns-clause-query
returns-clause-query c = λ nodes sources tables ports given are run whole remembers. remembered nodes tables ports given are run.edges (λ k within. (closed_whole nodes sources ports given are run whole k within).legal) remembers
