use Rattle.pat_atleast.proofs.CountLemmas.{same_orders}
use Rattle.pat_atleast.proofs.AgreeLemmas.{at_least_keeps}
use Rattle.pat_atleast.proofs.RowsMade.{at_least_rows}
use Rattle.pat_atleast.proofs.law.at_least_law.Goals as goal

pub returns-clause-agrees : goal.returns-clause-agrees
returns-clause-agrees c = λ ports number scope tests. at_least_keeps ports number scope tests

pub returns-clause-rows : goal.returns-clause-rows
returns-clause-rows c = λ number scope tests tables have. at_least_rows number scope tests tables have

pub returns-clause-orders : goal.returns-clause-orders
returns-clause-orders c = λ number scope tests tables. same_orders number scope tests tables
