use Rattle.cedr_edge.proofs.Lists.{may_end}
use Rattle.worker_tests.proofs.edges.send_end.Goals as goal

pub put-requires : goal.put-requires
put-requires g c = may_end _ c.loop.invariant.1 c.loop.invariant.2
