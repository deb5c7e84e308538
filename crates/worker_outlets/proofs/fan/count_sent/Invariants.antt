use Rattle.std.proofs.Common.{◌≡◌, take}
use Rattle.cedr_edge.specs.Ends.{as_u64}
use Rattle.worker_outlets.specs.Outlets.{sent_count}
use Rattle.worker_outlets.proofs.fan.count_sent.Given as goal

abbrev pub invariant-loop-outlet : goal.invariant-loop-outlet
invariant-loop-outlet l = l.count ≡ as_u64 (sent_count (take l.outlet-index l.list.items))
