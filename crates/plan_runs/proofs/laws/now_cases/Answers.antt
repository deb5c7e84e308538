use Rattle.plan_runs.proofs.NowCases.{middle_now, middle_output, strong_output}
use Rattle.plan_runs.proofs.laws.now_cases.Goals as goal

pub returns-clause-nodes : goal.returns-clause-nodes
returns-clause-nodes c = λ nodes count tables marks are middle. middle_now nodes tables marks are count middle

pub returns-clause-middle : goal.returns-clause-middle
returns-clause-middle c = middle_output

pub returns-clause-strong : goal.returns-clause-strong
returns-clause-strong c = strong_output
