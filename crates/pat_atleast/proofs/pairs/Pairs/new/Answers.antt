use Rattle.pat_state.specs.Tied.{AreCrossed}
use Rattle.pat_atleast.proofs.CrossingLemmas.{one_more, all_more}
use Rattle.pat_atleast.proofs.pairs.Pairs.new.Goals as goal

pub loop-preserved : goal.loop-preserved
loop-preserved c = record {
  rows = one_more c.loop.ports.items c.push.new.self.items c.new-port.result c.loop.counter c.in_ok-push.ensures.items c.new-port.ensures.rows c.loop.invariant.rows;
  tags = λ tests. all_more (AreCrossed 0 tests) c.loop.ports.items c.push.new.self.items c.new-port.result c.in_ok-push.ensures.items (c.new-port.ensures.crossed 0 tests) (c.loop.invariant.tags tests);
}
