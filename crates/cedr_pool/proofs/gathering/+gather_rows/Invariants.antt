use Rattle.std.proofs.Common.{length}
use Rattle.cedr_pool.proofs.gathering.+gather_rows.Given as goal

abbrev pub decreases-gather_rows : goal.decreases-gather_rows
decreases-gather_rows g l = length l.rows.items
