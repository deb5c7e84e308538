use Rattle.plan_live.proofs.SoFarLemmas.{after_are}
use Rattle.plan_live.proofs.ResumeLemmas.{resumes, states_lines}
use Rattle.plan_live.proofs.FollowLemmas.{goes_on_whole}
use Rattle.plan_live.proofs.law.resumed_scripts.Goals as goal

pub returns-clause-spelt : goal.returns-clause-spelt
returns-clause-spelt c = states_lines

pub returns-clause-accepted : goal.returns-clause-accepted
returns-clause-accepted c = after_are c.reading_law.ensures

pub returns-clause-same : goal.returns-clause-same
returns-clause-same c = resumes c.reading_law.ensures

pub returns-clause-whole : goal.returns-clause-whole
returns-clause-whole c = goes_on_whole c.reading_law.ensures
