use Rattle.change_laws.proofs.AgreeLemmas.{going_on_agrees, agree_earlier, agree_itself, agree_back, agree_along, agree_same, agree_ended}
use Rattle.change_laws.proofs.laws.agreement.Goals as goal

pub returns-clause-going_on : goal.returns-clause-going_on
returns-clause-going_on c = going_on_agrees

pub returns-clause-earlier : goal.returns-clause-earlier
returns-clause-earlier c = agree_earlier

pub returns-clause-itself : goal.returns-clause-itself
returns-clause-itself c = agree_itself

pub returns-clause-back : goal.returns-clause-back
returns-clause-back c = agree_back

pub returns-clause-along : goal.returns-clause-along
returns-clause-along c = agree_along

pub returns-clause-same : goal.returns-clause-same
returns-clause-same c = agree_same

pub returns-clause-ended : goal.returns-clause-ended
returns-clause-ended c = agree_ended
