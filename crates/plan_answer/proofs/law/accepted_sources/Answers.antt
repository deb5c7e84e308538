use Rattle.plan_answer.proofs.AcceptedLemmas.{all_accepted}
use Rattle.plan_answer.proofs.law.accepted_sources.Goals as goal

pub returns : goal.returns
returns c = λ told nodes left read.
    let a = all_accepted told c.message_laws.ensures.source_legal c.message_laws.ensures.source_table 0 nodes left read.faults read.given read.faulty_are in
    (a.0, a.1, a.2, a.3)
