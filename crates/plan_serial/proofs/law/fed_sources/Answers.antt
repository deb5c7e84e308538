use Rattle.plan_serial.proofs.RunLemmas.{fed_first, whole_run}
use Rattle.plan_serial.proofs.law.fed_sources.Goals as goal

pub returns-clause-begins : goal.returns-clause-begins
returns-clause-begins c = fed_first

pub returns-clause-ends : goal.returns-clause-ends
returns-clause-ends c = λ nodes net left whole rounds s settled none. whole_run nodes net left whole rounds s none settled
