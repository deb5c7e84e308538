use Rattle.std.proofs.Common.{◌∷◌, []}
use Rattle.change_laws.proofs.Legal.{legal-push, table_moved, table_stays, mark-append}
use Rattle.change_laws.proofs.AgreeLemmas.{table_rows}
use Rattle.change_laws.proofs.laws.legal_lists.Goals as goal

pub returns-clause-goes_on : goal.returns-clause-goes_on
returns-clause-goes_on c = legal-push

pub returns-clause-table : goal.returns-clause-table
returns-clause-table c = table_moved

pub returns-clause-same_table : goal.returns-clause-same_table
returns-clause-same_table c = table_stays

pub returns-clause-mark : goal.returns-clause-mark
returns-clause-mark c = λ ms m. mark-append ms (m ∷ [])

pub returns-clause-rows : goal.returns-clause-rows
returns-clause-rows c = table_rows
