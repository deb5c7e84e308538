use Rattle.std.proofs.Common.{◌≡◌, Bool, false, map}
use Rattle.cedr_node.specs.Nodes.{made_of}
use Rattle.worker_outlets.specs.Outlets.{bare}
use Rattle.cedr_worker.specs.Inputs.{TakenSoFar, taken_in}
use Rattle.cedr_worker.specs.Operators.{NodeWorks}
use Rattle.cedr_worker.proofs.taking.take_each.Given as goal

abbrev pub invariant-loop-port : goal.invariant-loop-port
invariant-loop-port g l =
    ((broke : Bool) → NodeWorks l.fn.node (taken_in l.fn.inputs.items) l.fn.outlets l.fn.lacked broke → NodeWorks l.node (taken_in l.inputs.items) l.outlets l.lacks broke)
    × TakenSoFar l.fn.inputs.items l.inputs.items l.moved l.port
    × (map bare l.outlets ≡ map bare l.fn.outlets)
    × (l.moved ≡ false → l.outlets ≡ l.fn.outlets)
    × (made_of l.node ≡ made_of l.fn.node)
