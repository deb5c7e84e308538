use Rattle.cedr_net.proofs.NewLemmas.{NewUpTo}
use Rattle.cedr_net.proofs.flow.Flow.new.Given as goal

abbrev pub invariant-loop-place : goal.invariant-loop-place
invariant-loop-place l = NewUpTo l.nodes l.place l.readers.items l.waiting.items l.works.items
