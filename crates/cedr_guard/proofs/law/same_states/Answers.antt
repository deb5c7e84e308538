use Rattle.cedr_guard.proofs.StateLemmas.{same_fault, same_goes_on}
use Rattle.cedr_guard.proofs.SpeltLemmas.{same_from}
use Rattle.cedr_guard.proofs.law.same_states.Goals as goal

pub returns-clause-fault : goal.returns-clause-fault
returns-clause-fault c = same_fault

pub returns-clause-goes_on : goal.returns-clause-goes_on
returns-clause-goes_on c = same_goes_on

pub returns-clause-states : goal.returns-clause-states
returns-clause-states c = same_from
