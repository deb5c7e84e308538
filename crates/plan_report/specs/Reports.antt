-- What is reported of a run of a plan's workers.
use Rattle.std.specs.Prelude.{ℕ, ◌≡◌, ◌<◌, Bool, true, false, List, length, map, Option}
use Rattle.std.specs.List.{list_any}
use Rattle.cedr_base.specs.Messages.{changes_of}
use Rattle.node_laws.specs.Lists.{Lists, list_at}
use Rattle.cedr_plan.specs.declared.plan.PlanNode.{PlanNode}
use Rattle.cedr_plan.specs.Places.{output_place, source_count}
use Rattle.plan_runs.specs.Runs.{IsRun, sources_in}
use Rattle.plan_runs.specs.Without.{forgot_in}
use Rattle.plan_edges.specs.Wires.{AreClosed, AreWired, carried, froms, ports_of}
use Rattle.logbook.specs.Pages.{Book}
use Rattle.cedr_edge.specs.Ends.{InEnd, OutEnd}
use Rattle.cedr_worker.specs.declared.source.SourceEnd.{SourceEnd}
use Rattle.plan_answer.specs.Forgettings.{nodes_forgot, port_forgot}
use Rattle.plan_answer.specs.Sources.{faulty_from}
use Rattle.plan_workers.specs.declared.ended.Ended.{Ended}
use Rattle.plan_workers.specs.declared.ending.Closed.{Closed}
use Rattle.plan_workers.specs.declared.worker.Worker.{Worker}
use Rattle.plan_workers.specs.Crews.{AreRoles}
use Rattle.plan_workers.specs.Ends.{AllEndAs}
use Rattle.plan_workers.specs.Roles.{AllWorkAs, Role}
use Rattle.plan_workers.specs.Stopping.{is_short, is_unread}
use Rattle.plan_workers.specs.Tellings.{node_faults, refusal_in}
use Rattle.plan_workers.specs.Wents.{AreRan, HaveClosed, Went, part_left, putters_left, ran_left, takers_left}
use Rattle.plan_report.specs.declared.report.Outcome.{Outcome}
use Rattle.plan_report.specs.declared.report.Outcome.TheVariants as outcome
use Rattle.plan_report.specs.declared.report.Report.{Report}

-- ---- how the sources stopped

-- memory was lacking for a source
abbrev pub source_lacked : {S : Type 0} → SourceEnd S → Bool
source_lacked end = is_short end.stop

-- a read of a source was refused
abbrev pub source_refused : {S : Type 0} → SourceEnd S → Bool
source_refused end = is_unread end.stop

-- How a run ended by how its sources stopped, and whether memory was lacking elsewhere. At want of memory nothing is said.
abbrev pub HasOutcome : {S : Type 0} → List PlanNode → List (SourceEnd S) → Bool → Outcome → Type 0
HasOutcome nodes ends short outcome.Memory = Unit {0}
HasOutcome nodes ends short outcome.Done = (short ≡ false) × HaveClosed ends
HasOutcome nodes ends short outcome.Read = (short ≡ false) × (list_any source_lacked ends ≡ false) × (list_any source_refused ends ≡ true)
HasOutcome nodes ends short (outcome.Events faulty) =
    (short ≡ false) × (list_any source_lacked ends ≡ false) × (list_any source_refused ends ≡ false) × (faulty.items ≡ faulty_from 0 (node_faults nodes (map refusal_in ends))) × (0 < length faulty.items)

-- ---- the report

-- The workers of a plan over these sources, after any turns; the output writes this history.
pub record HaveWorked {S R : Type 0} (rest : S → Option (List ℕ)) (faults : S → ℕ) (nodes : List PlanNode) (sources : List S) (history : Book) (workers : List (Worker S R)) : Type 0 where
  pub takers : List (List InEnd)
  pub putters : List (List OutEnd)
  pub roles : List Role
  pub wired : AreWired nodes takers putters
  pub roles_are : AreRoles rest faults nodes takers putters sources history roles
  pub work : AllWorkAs rest faults roles workers

-- What is left of the workers of a plan over these sources, and its closed edges; the output wrote this history.
pub record HaveEnded {S R : Type 0} (rest : S → Option (List ℕ)) (faults : S → ℕ) (nodes : List PlanNode) (sources : List S) (history : Book) (closed : Closed S R) : Type 0 where
  pub takers : List (List InEnd)
  pub putters : List (List OutEnd)
  pub roles : List Role
  pub ends : List (Ended S R)
  pub wired : AreWired nodes takers putters
  pub roles_are : AreRoles rest faults nodes takers putters sources history roles
  pub ended : AllEndAs rest faults roles ends
  pub edges : AreClosed nodes (map takers_left ends) (map putters_left ends) closed.edges.items
  pub ran : closed.ran.items ≡ map ran_left ends
  pub parts : closed.parts.items ≡ map part_left ends

-- A run in which each source closed and memory was found: what went over the edges is a run of the plan over the lists of the
-- sources. What the ports forgot and the changes of the result are those of that run.
pub record IsDone {S : Type 0} (nodes : List PlanNode) (given : Lists) (report : Report S) : Type 0 where
  pub run : IsRun nodes (sources_in nodes given) (ports_of nodes (carried report.edges.items)) given
  pub closed : HaveClosed report.sources.items
  pub forgotten : map port_forgot report.forgotten.items ≡ nodes_forgot 0 (forgot_in nodes (ports_of nodes (carried report.edges.items)))
  pub changes : report.changes.items ≡ changes_of (list_at given (output_place nodes))

-- What went over the edges, one for each port, by the node that gave it, what the turns of each worker did, and how the run ended
-- by that.
pub record IsReport {S : Type 0} (rest : S → Option (List ℕ)) (faults : S → ℕ) (nodes : List PlanNode) (sources : List S) (report : Report S) : Type 0 where
  pub given : Lists
  pub lacks : ℕ → Bool
  pub count : length report.sources.items ≡ source_count nodes
  pub edges : length report.edges.items ≡ length (froms nodes)
  pub went : Went rest faults nodes sources (ports_of nodes (carried report.edges.items)) given lacks report.sources.items
  pub ran : AreRan nodes report.edges.items report.ran.items
  pub short : Bool
  pub came : HasOutcome nodes report.sources.items short report.outcome
  pub found : short ≡ false → (k : ℕ) → lacks k ≡ false
  pub done : report.outcome ≡ outcome.Done → IsDone nodes given report
