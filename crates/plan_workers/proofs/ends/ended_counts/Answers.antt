use Rattle.plan_workers.proofs.EndLemmas.{ended_kept, ended_rose}
use Rattle.plan_workers.proofs.ends.ended_counts.Goals as goal

pub returns-clause-kept : goal.returns-clause-kept
returns-clause-kept g c = ended_kept g.S.Source.rest g.S.Source.faults

pub returns-clause-rose : goal.returns-clause-rose
returns-clause-rose g c = ended_rose g.S.Source.rest g.S.Source.faults
