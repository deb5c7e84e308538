use Rattle.std.proofs.Common.{◌≡◌, ◌++◌, take}
use Rattle.cedr_net.specs.Edges.{readers_on}
use Rattle.cedr_net.proofs.edges.push_readers.Given as goal

abbrev pub invariant-loop-port : goal.invariant-loop-port
invariant-loop-port l = l.ports.items ≡ l.initial.ports.items ++ readers_on l.place l.at 0 (take l.port l.inputs)
