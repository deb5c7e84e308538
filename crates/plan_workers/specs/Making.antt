-- How the workers of a plan are made, one after the other.
use Rattle.std.specs.Prelude.{ℕ, ◌≡◌, ◌<◌, ◌≤◌, true, false, List, [], ◌∷◌, length, map, count_by, Option, None, Some}
use Rattle.std.specs.List.{All, flat_map}
use Rattle.logbook.specs.Pages.{Book}
use Rattle.cedr_edge.specs.Ends.{InEnd, OutEnd}
use Rattle.cedr_history.specs.Ends.{Writing}
use Rattle.cedr_history.specs.Lists.{nothing}
use Rattle.node_laws.specs.Pass.{HasBlockWithin}
use Rattle.cedr_plan.specs.Drawn.{Node, node_of}
use Rattle.cedr_plan.specs.Places.{is_output, is_source}
use Rattle.cedr_plan.specs.declared.plan.PlanNode.{PlanNode}
use Rattle.cedr_text.specs.declared.event_line.Shape.{Shape}
use Rattle.plan_edges.specs.Wires.{in_edge, out_edge}
use Rattle.op_node.specs.Ready.{IsReady}
use Rattle.plan_workers.specs.declared.held.HeldWriter.{HeldWriter}
use Rattle.plan_workers.specs.declared.worker.Worker.{Worker}
use Rattle.plan_workers.specs.declared.worker.Worker.TheVariants as worker
use Rattle.plan_workers.specs.Crews.{node_in, takes_in, puts_in, content_in, count_in, source_roles, AreNumbered}
use Rattle.plan_workers.specs.Roles.{Role, WorksAs, AllWorkAs}

-- the source that a worker reads
abbrev pub sources_of_worker : {S R : Type 0} → Worker S R → List S
sources_of_worker (worker.Source w) = w.source ∷ []
sources_of_worker (worker.Operator w) = []
sources_of_worker (worker.Output h) = []

-- the sources that some workers read, in order
abbrev pub sources_of : {S R : Type 0} → List (Worker S R) → List S
sources_of workers = flat_map sources_of_worker workers

-- A node of a plan and the ends of its edges, over which nothing went. It has as many ports as its operator asks for, and
-- each node but the output is read.
pub record CanWork (node : PlanNode) (takers : List InEnd) (putters : List OutEnd) : Type 0 where
  pub ready : is_source node.kind ≡ false → IsReady node.kind (length node.inputs.items)
  pub level : HasBlockWithin node.level
  pub ports : length takers ≡ length node.inputs.items
  pub portless : is_source node.kind ≡ true → takers ≡ []
  pub taken : All (λ (e : InEnd). e.taken ≡ []) takers
  pub sent : All (λ (e : OutEnd). e.sent ≡ []) putters
  pub read : is_output node.kind ≡ false → 0 < length putters
  pub unread : is_output node.kind ≡ true → putters ≡ []

-- the same of each of some nodes
abbrev pub AllCanWork : List PlanNode → List (List InEnd) → List (List OutEnd) → Type 0
AllCanWork [] [] [] = Unit {0}
AllCanWork [] [] (p ∷ ps) = ⊥
AllCanWork [] (t ∷ ts) putters = ⊥
AllCanWork (n ∷ ns) [] putters = ⊥
AllCanWork (n ∷ ns) (t ∷ ts) [] = ⊥
AllCanWork (n ∷ ns) (t ∷ ts) (p ∷ ps) = CanWork n t p × AllCanWork ns ts ps

-- what the worker of a node is made for, over these ends
abbrev pub role_for : ℕ → PlanNode → List InEnd → List OutEnd → Book → Shape → Option (List ℕ) → ℕ → Role
role_for number node takers putters history shape content count = record { number = number; node = node; takes = map in_edge takers; puts = map out_edge putters; shape = shape; content = content; count = count; history = history }

-- the writer of a new history
pub record IsNewWriter (history : Book) (w : Writing) : Type 0 where
  pub of : w.history ≡ history
  pub published : w.published ≡ nothing
  pub all : w.all ≡ nothing
  pub concluded : w.concluded ≡ false

-- the writer is there
abbrev pub HasWriter : {R : Type 0} → Book → Option (HeldWriter R) → Type 0
HasWriter history None = ⊥
HasWriter history (Some held) = IsNewWriter history held.writer

-- the writer is there for at most one output among some nodes, and else there is no output among them
abbrev pub Awaits : {R : Type 0} → Book → Option (HeldWriter R) → List PlanNode → Type 0
Awaits history None nodes = count_by (λ (node : Node). is_output node.kind) (map node_of nodes) ≡ 0
Awaits history (Some held) nodes = IsNewWriter history held.writer × (count_by (λ (node : Node). is_output node.kind) (map node_of nodes) ≤ 1)

-- a worker was made for a node, over these ends and for this history
pub record IsMade {S R : Type 0} (rest : S → Option (List ℕ)) (faults : S → ℕ) (number : ℕ) (node : PlanNode) (takers : List InEnd) (putters : List OutEnd) (history : Book) (w : Worker S R) : Type 0 where
  pub role : Role
  pub numbered : role.number ≡ number
  pub stands : role.node ≡ node
  pub takes : role.takes ≡ map in_edge takers
  pub puts : role.puts ≡ map out_edge putters
  pub contents : map content_in (source_roles (role ∷ [])) ≡ map rest (sources_of_worker w)
  pub counts : map count_in (source_roles (role ∷ [])) ≡ map faults (sources_of_worker w)
  pub history_is : role.history ≡ history
  pub works : WorksAs rest faults role w

-- workers were made for some nodes, which are numbered from a place on, over these ends and these sources
pub record AreMade {S R : Type 0} (rest : S → Option (List ℕ)) (faults : S → ℕ) (number : ℕ) (nodes : List PlanNode) (takers : List (List InEnd)) (putters : List (List OutEnd)) (sources : List S) (history : Book) (workers : List (Worker S R)) : Type 0 where
  pub roles : List Role
  pub stand : map node_in roles ≡ nodes
  pub numbers : AreNumbered number roles
  pub takes : map takes_in roles ≡ map (map in_edge) takers
  pub puts : map puts_in roles ≡ map (map out_edge) putters
  pub contents : map content_in (source_roles roles) ≡ map rest sources
  pub counts : map count_in (source_roles roles) ≡ map faults sources
  pub histories : All (λ (role : Role). role.history ≡ history) roles
  pub work : AllWorkAs rest faults roles workers
