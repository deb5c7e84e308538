-- Room for what the workers of a plan become.
use Rattle.std.specs.Prelude.{ℕ, ◌≡◌, ◌≤◌, [], length}
use Rattle.std.specs.Vec.{vec_capacity}
use Rattle.plan_report.specs.Rooms.{IsReportRoom}
use Rattle.plan_threads.specs.declared.room.Room.{Room}

-- a post for each of so many workers, and lists with room for them, which are empty
pub record IsRoom {S G R : Type 0} (count : ℕ) (room : Room S G R) : Type 0 where
  pub posts : length room.posts.items ≡ count
  pub seats : (room.seats.items ≡ []) × (count ≤ vec_capacity room.seats)
  pub joined : (room.joined.items ≡ []) × (count ≤ vec_capacity room.joined)
  pub report : IsReportRoom count room.report
