use Rattle.std.proofs.Common.{◌≡◌, ◌+◌, ◌*◌, ◌^◌, ◌≤◌, drop}
use Rattle.cedr_make.specs.Summary.{total_length}
use Rattle.cedr_make.proofs.summary.total_length.Given as goal

abbrev pub invariant-loop-row : goal.invariant-loop-row
invariant-loop-row l = (l.total + total_length (drop l.row-index l.rows) ≡ total_length l.rows) × (l.total ≤ l.row-index * 2 ^ 64)
