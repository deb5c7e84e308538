use Rattle.cedr_script.proofs.LogLemmas.{read_came, write_went, sent_went}
use Rattle.cedr_script.proofs.law.log_laws.Goals as goal

pub returns-clause-read : goal.returns-clause-read
returns-clause-read c = read_came

pub returns-clause-written : goal.returns-clause-written
returns-clause-written c = write_went

pub returns-clause-sent : goal.returns-clause-sent
returns-clause-sent c = sent_went
