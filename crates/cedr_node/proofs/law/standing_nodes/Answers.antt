use Rattle.cedr_node.proofs.NodeLemmas.{stands_lawful, stands_ports, stands_inputs, stands_legal}
use Rattle.cedr_node.proofs.law.standing_nodes.Goals as goal

pub returns-clause-usable : goal.returns-clause-usable
returns-clause-usable c = λ node lists given stands. stands.usable

pub returns-clause-lawful : goal.returns-clause-lawful
returns-clause-lawful c = stands_lawful

pub returns-clause-inputs : goal.returns-clause-inputs
returns-clause-inputs c = stands_inputs

pub returns-clause-ports : goal.returns-clause-ports
returns-clause-ports c = stands_ports

pub returns-clause-legal : goal.returns-clause-legal
returns-clause-legal c = stands_legal
