use Rattle.std.proofs.Common.{◌≡◌}
use Rattle.cedr_net.specs.Edges.{all_wait, ArePorts}
use Rattle.cedr_net.proofs.edges.send_all.Given as goal

abbrev pub invariant-loop-message : goal.invariant-loop-message
invariant-loop-message l = (l.waiting.items ≡ all_wait l.initial.waiting.items l.readers l.yielded) × ArePorts l.waiting.items l.readers
