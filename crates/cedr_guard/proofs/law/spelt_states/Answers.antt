use Rattle.cedr_guard.proofs.SpeltLemmas.{spelt_same, fit_state}
use Rattle.cedr_guard.proofs.StateHistories.{spelt_history, same_history, fit_accepted, fit_itself}
use Rattle.cedr_guard.proofs.law.spelt_states.Goals as goal

pub returns-clause-spelt : goal.returns-clause-spelt
returns-clause-spelt c = spelt_same

pub returns-clause-history : goal.returns-clause-history
returns-clause-history c = spelt_history

pub returns-clause-later : goal.returns-clause-later
returns-clause-later c = same_history

pub returns-clause-state : goal.returns-clause-state
returns-clause-state c = fit_state

pub returns-clause-fit : goal.returns-clause-fit
returns-clause-fit c = fit_accepted

pub returns-clause-itself : goal.returns-clause-itself
returns-clause-itself c = fit_itself
