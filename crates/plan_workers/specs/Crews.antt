-- What the workers of a plan were made for, together.
use Rattle.std.specs.Prelude.{ℕ, ◌≡◌, ◌+◌, List, [], ◌∷◌, map, None, Option}
use Rattle.std.specs.List.{All, filter}
use Rattle.atomic_table.specs.Seated.{TableId}
use Rattle.logbook.specs.Pages.{Book}
use Rattle.cedr_edge.specs.Ends.{InEnd, OutEnd}
use Rattle.cedr_history.specs.Ends.{ReaderSeen}
use Rattle.cedr_history.specs.Lists.{nothing}
use Rattle.cedr_plan.specs.declared.plan.PlanNode.{PlanNode}
use Rattle.plan_edges.specs.Wires.{in_edge, out_edge, AreWired}
use Rattle.cedr_plan.specs.Places.{is_source}
use Rattle.plan_workers.specs.declared.worker.Worker.{Worker}
use Rattle.plan_workers.specs.Roles.{Role, AllWorkAs}

-- the node that a worker was made for
abbrev pub node_in : Role → PlanNode
node_in role = role.node

-- the edges of its ports
abbrev pub takes_in : Role → List TableId
takes_in role = role.takes

-- the edges that come from it
abbrev pub puts_in : Role → List TableId
puts_in role = role.puts

-- the content of its source, where that is known
abbrev pub content_in : Role → Option (List ℕ)
content_in role = role.content

-- the count of faults of its source
abbrev pub count_in : Role → ℕ
count_in role = role.count

-- those of the sources, in order
abbrev pub source_roles : List Role → List Role
source_roles roles = filter (λ (role : Role). is_source role.node.kind) roles

-- they are numbered from a place on
abbrev pub AreNumbered : ℕ → List Role → Type 0
AreNumbered place [] = Unit {0}
AreNumbered place (r ∷ rs) = (r.number ≡ place) × AreNumbered (place + 1) rs

-- One for each node of a plan, in its order and numbered so, over these edges. The sources have the content and the count of
-- these sources, in order.
pub record AreRoles {S : Type 0} (rest : S → Option (List ℕ)) (faults : S → ℕ) (nodes : List PlanNode) (takers : List (List InEnd)) (putters : List (List OutEnd)) (sources : List S) (history : Book) (roles : List Role) : Type 0 where
  pub nodes_are : map node_in roles ≡ nodes
  pub numbers : AreNumbered 0 roles
  pub takes : map takes_in roles ≡ map (map in_edge) takers
  pub puts : map puts_in roles ≡ map (map out_edge) putters
  pub contents : map content_in (source_roles roles) ≡ map rest sources
  pub counts : map count_in (source_roles roles) ≡ map faults sources
  pub histories : All (λ (role : Role). role.history ≡ history) roles

-- The workers of a plan over its edges and these sources. A reader of the output's history, which saw nothing, stands beside
-- them.
pub record IsCrew {S R : Type 0} (rest : S → Option (List ℕ)) (faults : S → ℕ) (nodes : List PlanNode) (sources : List S) (workers : List (Worker S R)) (reader : ReaderSeen) : Type 0 where
  pub takers : List (List InEnd)
  pub putters : List (List OutEnd)
  pub roles : List Role
  pub wired : AreWired nodes takers putters
  pub roles_are : AreRoles rest faults nodes takers putters sources reader.history roles
  pub work : AllWorkAs rest faults roles workers
  pub new : (reader.seen ≡ nothing) × (reader.last ≡ None)
