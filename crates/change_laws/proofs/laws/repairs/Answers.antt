use Rattle.change_laws.proofs.Legal.{legal_repaired, table_repaired}
use Rattle.change_laws.proofs.laws.repairs.Goals as goal

pub returns-clause-legal : goal.returns-clause-legal
returns-clause-legal c = legal_repaired

pub returns-clause-table : goal.returns-clause-table
returns-clause-table c = table_repaired
