use Rattle.op_node.proofs.ReadyMeanings.{alike, ready_meaning}
use Rattle.op_node.proofs.law.node_meanings.Goals as goal

pub returns-clause-lawful : goal.returns-clause-lawful
returns-clause-lawful c = ready_meaning

pub returns-clause-alike : goal.returns-clause-alike
returns-clause-alike c = alike
