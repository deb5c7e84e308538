use Rattle.node_laws.proofs.Middle.{ended_passed, ended_front}
use Rattle.node_laws.proofs.Passes.{passes}
use Rattle.node_laws.proofs.PassedAgree.{passed_agrees}
use Rattle.node_laws.proofs.laws.passing.Goals as goal

pub returns-clause-legal : goal.returns-clause-legal
returns-clause-legal c = λ level ms legal. (passes level ms legal).legal

pub returns-clause-table : goal.returns-clause-table
returns-clause-table c = λ level ms legal. (passes level ms legal).table

pub returns-clause-mark : goal.returns-clause-mark
returns-clause-mark c = λ level ms legal. (passes level ms legal).mark

pub returns-clause-agree : goal.returns-clause-agree
returns-clause-agree c = passed_agrees

pub returns-clause-ended : goal.returns-clause-ended
returns-clause-ended c = ended_passed

pub returns-clause-last : goal.returns-clause-last
returns-clause-last c = ended_front
