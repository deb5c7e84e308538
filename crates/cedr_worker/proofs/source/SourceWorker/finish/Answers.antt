use Rattle.std.proofs.Common.{refl}
use Rattle.cedr_worker.proofs.SourceLemmas.{over_stopped, works_end}
use Rattle.cedr_worker.proofs.source.SourceWorker.finish.Goals as goal

pub unwrap-requires : goal.unwrap-requires
unwrap-requires g c =
    let w = c.requires.works in
    over_stopped g.S.Source.rest g.S.Source.faults w.0 w.1 w.2 c.args.self w.3 c.requires.over

pub returns-clause-ends : goal.returns-clause-ends
returns-clause-ends g c = λ shape content count works.
    works_end g.S.Source.rest g.S.Source.faults shape content count c.args.self _ works c.requires.over refl c.unwrap.ensures (c.into_edges.ensures.all c.requires.over)
