use Rattle.std.proofs.Common.{◌≡◌, replicate}
use Rattle.cedr_plan.specs.Nodes.{all_ports as joined}
use Rattle.cedr_plan.proofs.inputs.repeated.Given as goal

abbrev pub invariant-loop : goal.invariant-loop
invariant-loop l = l.repeated.items ≡ joined (replicate l.counter l.types)
