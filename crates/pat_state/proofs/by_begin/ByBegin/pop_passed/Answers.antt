use Rattle.pat_state.proofs.ForgetLemmas.{taken_alone}
use Rattle.pat_state.proofs.by_begin.ByBegin.pop_passed.Goals as goal

pub returns-clause-alone : goal.returns-clause-alone
returns-clause-alone c = taken_alone _ c.self.inside.rows c.pop_passed.new.rows c.pop_passed.result c.self.invariant c.pop_passed.ensures
