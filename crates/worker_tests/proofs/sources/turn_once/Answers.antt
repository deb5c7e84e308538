use Rattle.worker_tests.proofs.sources.turn_once.Goals as goal

pub returns-clause-works : goal.returns-clause-works
returns-clause-works g c =
    let w = c.requires in
    (w.0, w.1, w.2, c.turn.ensures.works w.0 w.1 w.2 w.3)
