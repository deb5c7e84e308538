-- The seats of a pool's threads.
use Rattle.std.specs.Prelude.{ℕ, ◌≡◌, ◌≤◌, List, [], ◌∷◌, ◌++◌, length, IsPermutation, Vec}
use Rattle.std.specs.Vec.{vec_capacity}
use Rattle.std.specs.Global.{Global}
use Rattle.pool_queue.specs.declared.numbered.Numbered.{Numbered}
use Rattle.pool_queue.specs.Passes.{Holding, IsStillPass}
use Rattle.cedr_pool.specs.declared.seat.Seat.{Seat}
use Rattle.cedr_pool.specs.Tasks.{tasks_entries}

-- the pass of a seat
abbrev pub pass_of : {W : Type 0} → Seat W → Holding W
pass_of seat = seat.pass

-- the tasks that ended at a seat
abbrev pub row_of : {W : Type 0} → Seat W → Vec (Numbered W) Global
row_of seat = seat.row

-- the tasks of some rows
abbrev pub all_rows : {X : Type 0} → List (Vec (Numbered X) Global) → List (Numbered X)
all_rows [] = []
all_rows (row ∷ rows) = row.items ++ all_rows rows

-- an empty row with room for so many tasks
abbrev pub IsRowFor : {X : Type 0} → ℕ → Vec (Numbered X) Global → Type 0
IsRowFor size row = (row.items ≡ []) × (size ≤ vec_capacity row)

-- a pass that holds nothing, of a queue of so many tasks at most
abbrev pub HoldsNone : {X : Type 0} → ℕ → Holding X → Type 0
HoldsNone size pass = (pass.held ≡ []) × (length pass.opened ≤ size)

-- the tasks that ended at a seat are all that its pass holds
abbrev pub HasEndedTasks : {W : Type 0} → Seat W → Type 0
HasEndedTasks seat = IsPermutation (tasks_entries seat.row.items) seat.pass.held

-- and there is room for all that were opened
pub record IsSeated {W : Type 0} (seat : Seat W) : Type 0 where
  pub row : HasEndedTasks seat
  pub room : length seat.pass.opened ≤ vec_capacity seat.row

-- the seat of the same pass, at which other tasks may have ended
pub record HasPlayed {W : Type 0} (old new : Seat W) : Type 0 where
  pub same : IsStillPass old.pass new.pass
  pub row : HasEndedTasks new
