use Rattle.plan_report.proofs.WatchLemmas.{reads_along}
use Rattle.plan_threads.proofs.playing.wait_for_each.Goals as goal

pub returns-then-round-clause-reads : goal.returns-then-round-clause-reads
returns-then-round-clause-reads g c = reads_along c.args.reader.now c.loop.reader c.look_once-looks.new.reader c.loop.invariant.reads c.look_once-looks.ensures.reads

pub loop-preserved-then-round-2 : goal.loop-preserved-then-round-2
loop-preserved-then-round-2 g c = record {
  seats = λ roles stand. c.turn_here-round.ensures roles (c.loop.invariant.seats roles stand);
  reads = reads_along c.args.reader.now c.loop.reader c.look_once-looks.new.reader c.loop.invariant.reads c.look_once-looks.ensures.reads;
  asked = λ found. c.look_once-looks.ensures.asked (c.loop.invariant.asked found);
  watches = c.look_once-looks.ensures.watches;
}

pub loop-preserved : goal.loop-preserved
loop-preserved g c = record {
  seats = λ roles stand. c.turn_here-round.ensures roles (c.loop.invariant.seats roles stand);
  reads = reads_along c.args.reader.now c.loop.reader c.look_once-looks.new.reader c.loop.invariant.reads c.look_once-looks.ensures.reads;
  asked = λ found. c.look_once-looks.ensures.asked (c.loop.invariant.asked found);
  watches = c.look_once-looks.ensures.watches;
}
