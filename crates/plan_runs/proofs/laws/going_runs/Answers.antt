use Rattle.plan_runs.proofs.Going.{going_table, going_mark, going_output}
use Rattle.plan_runs.proofs.NowPort.{strong_passed}
use Rattle.plan_runs.proofs.laws.going_runs.Goals as goal

pub returns-clause-tables : goal.returns-clause-tables
returns-clause-tables c = going_table

pub returns-clause-marks : goal.returns-clause-marks
returns-clause-marks c = going_mark

pub returns-clause-strong : goal.returns-clause-strong
returns-clause-strong c = strong_passed

pub returns-clause-output : goal.returns-clause-output
returns-clause-output c = going_output
