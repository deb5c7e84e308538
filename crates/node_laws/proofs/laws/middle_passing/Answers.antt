use Rattle.node_laws.proofs.Middle.{middle_held, middle_front, middle_table}
use Rattle.node_laws.proofs.laws.middle_passing.Goals as goal

pub returns-clause-held : goal.returns-clause-held
returns-clause-held c = middle_held

pub returns-clause-mark : goal.returns-clause-mark
returns-clause-mark c = middle_front

pub returns-clause-table : goal.returns-clause-table
returns-clause-table c = middle_table
