use Rattle.plan_runs.proofs.NowRuns.{stands_as}
use Rattle.plan_runs.proofs.NowOutput.{shown_table, shown_mark}
use Rattle.plan_runs.proofs.laws.now_runs.Goals as goal

pub returns-clause-nodes : goal.returns-clause-nodes
returns-clause-nodes c = stands_as

pub returns-clause-table : goal.returns-clause-table
returns-clause-table c = shown_table

pub returns-clause-mark : goal.returns-clause-mark
returns-clause-mark c = shown_mark
