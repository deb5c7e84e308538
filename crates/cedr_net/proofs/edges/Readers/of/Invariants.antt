use Rattle.std.proofs.Common.{◌≡◌, take}
use Rattle.cedr_net.specs.Flows.{reads_of}
use Rattle.cedr_net.specs.Edges.{readers_from}
use Rattle.cedr_net.proofs.edges.Readers.of.Given as goal

abbrev pub invariant-loop-at : goal.invariant-loop-at
invariant-loop-at l = l.ports.items ≡ readers_from l.place 0 (take l.at (reads_of l.nodes))
