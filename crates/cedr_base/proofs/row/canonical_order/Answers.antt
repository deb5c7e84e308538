use Rattle.cedr_base.specs.RowLaws.{row_total}
use Rattle.cedr_base.proofs.RowLemmas.{exact_rows}
use Rattle.cedr_base.proofs.Sorting.{sorted_is_in_order}
use Rattle.cedr_base.proofs.row.canonical_order.Goals as goal

pub returns-clause-total : goal.returns-clause-total
returns-clause-total c = row_total

pub returns-clause-exact : goal.returns-clause-exact
returns-clause-exact c = exact_rows

pub returns-clause-sorted : goal.returns-clause-sorted
returns-clause-sorted c = sorted_is_in_order
