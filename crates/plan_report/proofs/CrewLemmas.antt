-- The workers of a plan, from their making to the report.
use Rattle.std.proofs.Common.{◌≡◌, ℕ, List, Option, length, sym, ap, ◌∙◌, subst}
use Rattle.std.proofs.lemmas.List.{length-map}
use Rattle.logbook.specs.Pages.{Book}
use Rattle.cedr_history.specs.Ends.{ReaderSeen}
use Rattle.cedr_plan.specs.declared.plan.PlanNode.{PlanNode}
use Rattle.plan_report.specs.Watching.{ReadsOn}
use Rattle.plan_workers.specs.declared.ending.Closed.{Closed}
use Rattle.plan_workers.specs.declared.worker.Worker.{Worker}
use Rattle.plan_workers.specs.Closings.{IsClosed}
use Rattle.plan_workers.specs.Crews.{AreRoles, IsCrew, node_in}
use Rattle.plan_workers.specs.Roles.{AllWorkAs, WorksAs}
use Rattle.plan_workers.proofs.AllLemmas.{all_count}
use Rattle.plan_report.specs.Reports.{HaveEnded, HaveWorked}

module _ {S R : Type 0} (rest : S → Option (List ℕ)) (faults : S → ℕ) (nodes : List PlanNode) (sources : List S) where
  -- a plan has a worker for each node, after any turns
  pub worked_count : (history : Book) (workers : List (Worker S R)) → HaveWorked rest faults nodes sources history workers → length workers ≡ length nodes
  worked_count history workers worked =
      all_count (WorksAs rest faults) worked.roles workers worked.work ∙ (sym (length-map worked.roles node_in) ∙ ap length worked.roles_are.nodes_are)

  -- what the workers of a crew are after turns that leave each as what it was made for
  pub have_worked : (workers after : List (Worker S R)) (reader later : ReaderSeen) → (crew : IsCrew rest faults nodes sources workers reader) → ReadsOn reader later → AllWorkAs rest faults crew.roles after → HaveWorked rest faults nodes sources later.history after
  have_worked workers after reader later crew on works = record {
    takers = crew.takers;
    putters = crew.putters;
    roles = crew.roles;
    wired = crew.wired;
    roles_are = subst (λ h. AreRoles rest faults nodes crew.takers crew.putters sources h crew.roles) (sym on.history) crew.roles_are;
    work = works;
  }

  -- a crew has a worker for each node
  pub crew_count : (workers : List (Worker S R)) (reader : ReaderSeen) → IsCrew rest faults nodes sources workers reader → length workers ≡ length nodes
  crew_count workers reader crew =
      all_count (WorksAs rest faults) crew.roles workers crew.work ∙ (sym (length-map crew.roles node_in) ∙ ap length crew.roles_are.nodes_are)

  -- once its workers are put away, the workers of a plan have ended
  pub have_ended : (history : Book) (workers : List (Worker S R)) (closed : Closed S R) → HaveWorked rest faults nodes sources history workers → IsClosed rest faults nodes workers closed → HaveEnded rest faults nodes sources history closed
  have_ended history workers closed worked is = record {
    takers = worked.takers;
    putters = worked.putters;
    roles = worked.roles;
    ends = is.ends;
    wired = worked.wired;
    roles_are = worked.roles_are;
    ended = is.ended worked.roles worked.work;
    edges = is.edges;
    ran = is.ran;
    parts = is.parts;
  }
