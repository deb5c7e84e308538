use Rattle.std.proofs.Common.{◌≡◌, take}
use Rattle.cedr_net.specs.Edges.{waits_on_all, ArePorts}
use Rattle.cedr_net.proofs.edges.send_copies.Given as goal

abbrev pub invariant-loop-reader : goal.invariant-loop-reader
invariant-loop-reader l = (l.waiting.items ≡ waits_on_all l.initial.waiting.items (take l.reader-index l.readers) l.message) × ArePorts l.waiting.items l.readers
