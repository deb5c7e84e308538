-- Room for what the workers of a plan become in a pool.
use Rattle.std.specs.Prelude.{ℕ, ◌≡◌, ◌≤◌, [], length}
use Rattle.std.specs.List.{All}
use Rattle.std.specs.Vec.{vec_capacity}
use Rattle.cedr_pool.specs.declared.room.RoomBack.{RoomBack}
use Rattle.cedr_pool.specs.declared.room.RoomIn.{RoomIn}
use Rattle.cedr_pool.specs.Seats.{IsRowFor}

-- a queue for so many tasks and threads, an empty row for each thread, and empty lists with room for them
pub record HasRoomIn {W : Type 0} (count threads : ℕ) (room : RoomIn W) : Type 0 where
  pub queue : room.queue ≡ record { tasks = count; workers = threads }
  pub opened : (room.opened.items ≡ []) × (count ≤ vec_capacity room.opened)
  pub rows : (length room.rows.items ≡ threads) × All (IsRowFor count) room.rows.items
  pub seats : (room.seats.items ≡ []) × (threads ≤ vec_capacity room.seats)

-- empty lists with room for what so many threads leave of so many tasks
pub record HasRoomBack {W : Type 0} (count threads : ℕ) (room : RoomBack W) : Type 0 where
  pub passes : (room.passes.items ≡ []) × (threads ≤ vec_capacity room.passes)
  pub rows : (room.rows.items ≡ []) × (threads ≤ vec_capacity room.rows)
  pub tasks : (room.tasks.items ≡ []) × (count ≤ vec_capacity room.tasks)
  pub workers : (room.workers.items ≡ []) × (count ≤ vec_capacity room.workers)
