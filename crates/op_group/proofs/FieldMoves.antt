-- What a change makes of the fields of a group's rows.
use Rattle.std.proofs.Common.{◌≡◌, ℕ, ◌+◌, List, arith}
use Rattle.std.specs.Prelude.{sum_by}
use Rattle.cedr_base.specs.declared.row.Row.{Row}
use Rattle.cedr_base.specs.declared.change.Change.{Change}
use Rattle.cedr_base.specs.Changes.{puts, takes}
use Rattle.change_laws.specs.Repairs.{IsMoved}
use Rattle.change_laws.proofs.Moves.{sum_by-moved}
use Rattle.op_group.specs.declared.segment.Totalled.{Totalled}
use Rattle.cedr_living.specs.Lives.{Living}
use Rattle.op_group.specs.Bags.{lives_of}
use Rattle.op_group.specs.BagLaws.{lives_sum}
use Rattle.op_group.specs.LawWords.{row_weight}

-- what a change makes of the fields of a group's rows
pub moved_lives : (asked : Totalled) (c : Change) (old new : List Row) → IsMoved c old new → (w : Living → ℕ)
    → sum_by w (lives_of asked new) + sum_by w (lives_of asked (takes c)) ≡ sum_by w (lives_of asked old) + sum_by w (lives_of asked (puts c))
moved_lives asked c old new moved w = omega (
  arith,
  lives_sum asked w new,
  lives_sum asked w old,
  lives_sum asked w (takes c),
  lives_sum asked w (puts c),
  sum_by-moved (row_weight asked w) c old new moved.sums,
)
