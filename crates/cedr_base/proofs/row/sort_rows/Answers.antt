use Rattle.cedr_base.proofs.Sorting.{sorted_is_in_order}
use Rattle.cedr_base.proofs.row.sort_rows.Goals as goal

pub returns-clause-ok : goal.returns-clause-ok
returns-clause-ok c = sorted_is_in_order c.args.rows.now.items c.sort.new.self.items c.in_ok-sort.ensures.permutation c.in_ok-sort.ensures.sorted
