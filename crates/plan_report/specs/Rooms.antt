-- Room for what is reported of the workers of a plan.
use Rattle.std.specs.Prelude.{ℕ, ◌≡◌, ◌≤◌, []}
use Rattle.std.specs.Vec.{vec_capacity}
use Rattle.plan_workers.specs.Closings.{IsDesk}
use Rattle.plan_report.specs.declared.room.ReportRoom.{ReportRoom}

-- lists with room for what is left of so many workers and for what is reported of their sources, which are empty
pub record IsReportRoom {S R : Type 0} (count : ℕ) (room : ReportRoom S R) : Type 0 where
  pub desk : IsDesk count room.desk
  pub sources : (room.sources.items ≡ []) × (count ≤ vec_capacity room.sources)
  pub faults : (room.faults.items ≡ []) × (count ≤ vec_capacity room.faults)
