use Rattle.plan_workers.proofs.EndLemmas.{all_given, all_judged, all_read, so_went, some_faulty}
use Rattle.plan_workers.proofs.ends.ended_sources.Goals as goal

pub returns-clause-given : goal.returns-clause-given
returns-clause-given g c = λ nodes sources given ends content told ended found known judged.
    all_given g.S.Source.rest g.S.Source.faults content told nodes sources given ends (ended.sources_count, ended.ends_count) (so_went g.S.Source.rest g.S.Source.faults nodes sources given ends ended) found known judged

pub returns-clause-faulty : goal.returns-clause-faulty
returns-clause-faulty g c = λ nodes sources given ends ended some. some_faulty g.S.Source.rest g.S.Source.faults nodes 0 ends ended.ends_count some

pub returns-clause-closed : goal.returns-clause-closed
returns-clause-closed g c = λ nodes sources given ends content told ended found known closed.
    all_read g.S.Source.rest g.S.Source.faults content told nodes sources given ends (ended.sources_count, ended.ends_count) (so_went g.S.Source.rest g.S.Source.faults nodes sources given ends ended) found known closed

pub returns-clause-judged : goal.returns-clause-judged
returns-clause-judged g c = all_judged g.S.Source.rest g.S.Source.faults
