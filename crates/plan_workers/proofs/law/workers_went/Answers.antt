use Rattle.plan_workers.proofs.WentLemmas.{all_gave, all_went, went_run}
use Rattle.plan_workers.proofs.RanLemmas.{all_ran}
use Rattle.plan_workers.proofs.law.workers_went.Goals as goal

pub returns-clause-went : goal.returns-clause-went
returns-clause-went g c = λ nodes takers putters sources history roles ends edges wired are ended closed.
    let all = all_gave g.S.Source.rest g.S.Source.faults roles ends ended in
    (all.given, all_went g.S.Source.rest g.S.Source.faults nodes takers putters sources history roles ends edges wired are ended closed all)

pub returns-clause-ran : goal.returns-clause-ran
returns-clause-ran g c = λ nodes takers putters sources history roles ends edges wired are ended closed.
    all_ran g.S.Source.rest g.S.Source.faults nodes takers putters sources history roles ends edges wired are ended closed (all_gave g.S.Source.rest g.S.Source.faults roles ends ended)

pub returns-clause-run : goal.returns-clause-run
returns-clause-run g c = λ nodes sources ports given lacked ends went found. went_run g.S.Source.rest g.S.Source.faults nodes sources ports given lacked ends went found
