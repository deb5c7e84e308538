-- What each worker of a plan was made for, and that it works as that.
use Rattle.std.specs.Prelude.{ℕ, ◌≡◌, ◌<◌, ◌≤◌, true, false, List, [], ◌∷◌, length, map, Option}
use Rattle.std.specs.Vec.{vec_capacity}
use Rattle.atomic_table.specs.Seated.{TableId}
use Rattle.logbook.specs.Pages.{Book}
use Rattle.cedr_node.specs.Nodes.{made_of}
use Rattle.worker_outlets.specs.Outlets.{AllOver, outlet_edge}
use Rattle.cedr_plan.specs.Drawn.{node_of}
use Rattle.cedr_plan.specs.declared.plan.PlanNode.{PlanNode}
use Rattle.cedr_plan.specs.Places.{is_output, is_source}
use Rattle.cedr_text.specs.Shapes.{ShapeHasTypes}
use Rattle.cedr_text.specs.declared.event_line.Shape.{Shape}
use Rattle.cedr_worker.specs.declared.operator.OperatorWorker.{OperatorWorker}
use Rattle.cedr_worker.specs.declared.source.SourceWorker.{SourceWorker}
use Rattle.cedr_worker.specs.Inputs.{input_edge}
use Rattle.cedr_worker.specs.OutputTurns.{OutputHasEnded as OutputEnded, OutputWorks}
use Rattle.cedr_worker.specs.Sources.{SourceWorks}
use Rattle.cedr_worker.specs.Workers.{IsWorking}
use Rattle.plan_workers.specs.declared.held.Held.{Held}
use Rattle.plan_workers.specs.declared.worker.Worker.{Worker}
use Rattle.plan_workers.specs.declared.worker.Worker.TheVariants as worker

-- What a worker was made for: its number, the node of the plan, the edges of its ports and those that come from it. A
-- source's worker besides for a source of this shape, with this content, where that is known, and this count of faults;
-- an output's for this history. The other workers say nothing of these.
pub record Role : Type 0 where
  pub number : ℕ
  pub node : PlanNode
  pub takes : List TableId
  pub puts : List TableId
  pub shape : Shape
  pub content : Option (List ℕ)
  pub count : ℕ
  pub history : Book

-- a source's worker works as that
pub record ReadsAs {S : Type 0} (rest : S → Option (List ℕ)) (faults : S → ℕ) (role : Role) (w : SourceWorker S) : Type 0 where
  pub kind : is_source role.node.kind ≡ true
  pub types : ShapeHasTypes role.shape role.node.types.items
  pub works : SourceWorks rest faults role.shape role.content role.count w
  pub number : w.number ≡ role.number
  pub takes : role.takes ≡ []
  pub puts : map outlet_edge w.outlets ≡ role.puts

-- the worker of a node that is neither a source nor an output; some node reads it
pub record OperatesAs (role : Role) (w : OperatorWorker) : Type 0 where
  pub source : is_source role.node.kind ≡ false
  pub output : is_output role.node.kind ≡ false
  pub works : IsWorking w
  pub number : w.number ≡ role.number
  pub made : node_of (made_of w.node) ≡ node_of role.node
  pub takes : map input_edge w.inputs.items ≡ role.takes
  pub puts : map outlet_edge w.outlets ≡ role.puts
  pub read : 0 < length role.puts

-- an output's worker, which has room for its input's end beside it; no node reads it
pub record WritesAs {R : Type 0} (role : Role) (h : Held R) : Type 0 where
  pub output : is_output role.node.kind ≡ true
  pub works : OutputWorks h.worker
  pub number : h.worker.number ≡ role.number
  pub made : node_of (made_of h.worker.node) ≡ node_of role.node
  pub takes : h.worker.input.edge ∷ [] ≡ role.takes
  pub puts : role.puts ≡ []
  pub history : h.worker.writer.history ≡ role.history
  pub spare : h.spare.items ≡ []
  pub room : 1 ≤ vec_capacity h.spare

-- a worker works as what it was made for
abbrev pub WorksAs : {S R : Type 0} → (S → Option (List ℕ)) → (S → ℕ) → Role → Worker S R → Type 0
WorksAs rest faults role (worker.Source w) = ReadsAs rest faults role w
WorksAs rest faults role (worker.Operator w) = OperatesAs role w
WorksAs rest faults role (worker.Output h) = WritesAs role h

-- each of some things stands for its role so, in order
abbrev pub AllAs : {X : Type 0} → (Role → X → Type 0) → List Role → List X → Type 0
AllAs As [] [] = Unit {0}
AllAs As [] (x ∷ xs) = ⊥
AllAs As (r ∷ rs) [] = ⊥
AllAs As (r ∷ rs) (x ∷ xs) = As r x × AllAs As rs xs

-- each of some workers works as what it was made for
abbrev pub AllWorkAs : {S R : Type 0} → (S → Option (List ℕ)) → (S → ℕ) → List Role → List (Worker S R) → Type 0
AllWorkAs rest faults roles workers = AllAs (WorksAs rest faults) roles workers

-- its `End` or `Broken` was sent on every out edge; of an output, the list is published with its close, or memory was
-- lacking and its input is over
abbrev pub HasEnded : {S R : Type 0} → Worker S R → Type 0
HasEnded (worker.Source w) = AllOver w.outlets
HasEnded (worker.Operator w) = AllOver w.outlets
HasEnded (worker.Output h) = OutputEnded h.worker

-- whatever it was made for, the worker works as that still
abbrev pub StaysAs : {S R : Type 0} → (S → Option (List ℕ)) → (S → ℕ) → Worker S R → Worker S R → Type 0
StaysAs rest faults old new = (role : Role) → WorksAs rest faults role old → WorksAs rest faults role new
