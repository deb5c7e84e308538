-- What is left of a plan's workers once all of them ended and all edges are closed.
use Rattle.std.specs.Prelude.{ℕ, ◌≡◌, ◌≤◌, List, [], map, Option}
use Rattle.std.specs.Vec.{vec_capacity}
use Rattle.cedr_plan.specs.declared.plan.PlanNode.{PlanNode}
use Rattle.plan_edges.specs.Wires.{AreClosed}
use Rattle.plan_workers.specs.declared.ended.Ended.{Ended}
use Rattle.plan_workers.specs.declared.ending.Closed.{Closed}
use Rattle.plan_workers.specs.declared.ending.Desk.{Desk}
use Rattle.plan_workers.specs.declared.worker.Worker.{Worker}
use Rattle.plan_workers.specs.Ends.{AllEndAs}
use Rattle.plan_workers.specs.Roles.{Role, AllWorkAs}
use Rattle.plan_workers.specs.Wents.{part_left, putters_left, ran_left, takers_left}

-- all lists are empty, with room for what is left of so many workers
pub record IsDesk {S R : Type 0} (count : ℕ) (desk : Desk S R) : Type 0 where
  pub ends : (desk.ends.items ≡ []) × (count ≤ vec_capacity desk.ends)
  pub takers : (desk.takers.items ≡ []) × (count ≤ vec_capacity desk.takers)
  pub putters : (desk.putters.items ≡ []) × (count ≤ vec_capacity desk.putters)
  pub ran : (desk.ran.items ≡ []) × (count ≤ vec_capacity desk.ran)
  pub parts : (desk.parts.items ≡ []) × (count ≤ vec_capacity desk.parts)

-- Something is left of each worker, whatever it was made for, and all edges are closed. The lists are in the plan's order.
pub record IsClosed {S R : Type 0} (rest : S → Option (List ℕ)) (faults : S → ℕ) (nodes : List PlanNode) (workers : List (Worker S R)) (closed : Closed S R) : Type 0 where
  pub ends : List (Ended S R)
  pub ended : (roles : List Role) → AllWorkAs rest faults roles workers → AllEndAs rest faults roles ends
  pub edges : AreClosed nodes (map takers_left ends) (map putters_left ends) closed.edges.items
  pub ran : closed.ran.items ≡ map ran_left ends
  pub parts : closed.parts.items ≡ map part_left ends
