use Rattle.op_node.specs.ReadyLaws.{node_ready}
use Rattle.cedr_node.proofs.LevelLemmas.{within_memory}
use Rattle.cedr_node.proofs.law.accepted_nodes.Goals as goal

pub returns-clause-ready : goal.returns-clause-ready
returns-clause-ready c = node_ready

pub returns-clause-level : goal.returns-clause-level
returns-clause-level c = λ earlier node is. within_memory node.level.block node.level.memory is.level.block_within_memory
