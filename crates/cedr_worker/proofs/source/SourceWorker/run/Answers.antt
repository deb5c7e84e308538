use Rattle.std.proofs.Common.{◌∙◌}
use Rattle.cedr_worker.proofs.SourceLemmas.{stays_on}
use Rattle.cedr_worker.proofs.source.SourceWorker.run.Goals as goal

pub turn-requires-after_bounds : goal.turn-requires-after_bounds
turn-requires-after_bounds g c κs within =
    let w = c.requires in
    (w.0, w.1, w.2, c.loop.invariant.works w.0 w.1 w.2 w.3)

pub loop-preserved-in-Moved : goal.loop-preserved-in-Moved
loop-preserved-in-Moved g c = record {
  works = λ shape content count works. c.turn.ensures.works shape content count (c.loop.invariant.works shape content count works);
  stays = λ some. stays_on _ _ _ c.turn.ensures.stays (c.loop.invariant.stays some) some;
  same = record { number = c.turn.ensures.same.number ∙ c.loop.invariant.same.number; edges = c.turn.ensures.same.edges ∙ c.loop.invariant.same.edges };
}

pub loop-preserved : goal.loop-preserved
loop-preserved g c = record {
  works = λ shape content count works. c.turn.ensures.works shape content count (c.loop.invariant.works shape content count works);
  stays = λ some. stays_on _ _ _ c.turn.ensures.stays (c.loop.invariant.stays some) some;
  same = record { number = c.turn.ensures.same.number ∙ c.loop.invariant.same.number; edges = c.turn.ensures.same.edges ∙ c.loop.invariant.same.edges };
}

pub returns-in-Ended-clause-stays : goal.returns-in-Ended-clause-stays
returns-in-Ended-clause-stays g c = λ some. stays_on _ _ _ c.turn.ensures.stays (c.loop.invariant.stays some) some
