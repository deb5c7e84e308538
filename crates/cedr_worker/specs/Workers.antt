-- What holds of a worker of a plan's node.
use Rattle.std.specs.Prelude.{◌≡◌, map}
use Rattle.cedr_node.specs.Nodes.{made_of}
use Rattle.worker_outlets.specs.Outlets.{outlet_edge}
use Rattle.cedr_worker.specs.declared.operator.OperatorWorker.{OperatorWorker}
use Rattle.cedr_worker.specs.Inputs.{taken_in, input_edge}
use Rattle.cedr_worker.specs.Operators.{NodeWorks}

-- what holds at every moment
abbrev pub IsWorking : OperatorWorker → Type 0
IsWorking w = NodeWorks w.node (taken_in w.inputs.items) w.outlets w.lacked w.broke

-- the worker has the same number, works as the same node of the plan, and has the same edges
pub record SameOperator (old new : OperatorWorker) : Type 0 where
  pub number : new.number ≡ old.number
  pub made : made_of new.node ≡ made_of old.node
  pub inputs : map input_edge new.inputs.items ≡ map input_edge old.inputs.items
  pub outlets : map outlet_edge new.outlets ≡ map outlet_edge old.outlets
