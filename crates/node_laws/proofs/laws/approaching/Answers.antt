use Rattle.node_laws.proofs.FirstApproach.{approach_itself, first_approach}
use Rattle.node_laws.proofs.NodeApproach.{node_approaches}
use Rattle.node_laws.proofs.FirstAdditions.{adds_first}
use Rattle.node_laws.proofs.laws.approaching.Goals as goal

pub returns-clause-itself : goal.returns-clause-itself
returns-clause-itself c = approach_itself

pub returns-clause-begins : goal.returns-clause-begins
returns-clause-begins c = first_approach

pub returns-clause-node : goal.returns-clause-node
returns-clause-node c = node_approaches

pub returns-clause-strong : goal.returns-clause-strong
returns-clause-strong c = adds_first
