-- What went over the edges of a plan, and which node gave it. Nothing here speaks of turns or threads.
use Rattle.std.specs.Prelude.{ℕ, ◌≡◌, ◌<◌, ◌+◌, ◌-◌, Bool, true, false, List, [], ◌∷◌, ◌++◌, length, slice_index_or, sum_by, nat_eq, if◌then◌else◌, Option}
use Rattle.std.specs.List.{All}
use Rattle.cedr_base.specs.declared.change.Message.{Message}
use Rattle.cedr_base.specs.declared.change.Message.TheVariants as message
use Rattle.cedr_edge.specs.Ends.{Carried, InEnd, OutEnd, as_u64}
use Rattle.node_laws.specs.Lawful.{is_over, IsLawful}
use Rattle.node_laws.specs.Lists.{Lists, list_at}
use Rattle.node_laws.specs.Pass.{pass}
use Rattle.worker_outlets.specs.Outgoing.{last_message}
use Rattle.cedr_plan.specs.declared.plan.PlanNode.{PlanNode}
use Rattle.cedr_plan.specs.Places.{is_output, is_source, source_count}
use Rattle.plan_runs.specs.Runs.{ArePrefixes, lists_at, input_lists}
use Rattle.cedr_text.specs.Shapes.{ShapeHasTypes}
use Rattle.cedr_text.specs.declared.event_line.Shape.{Shape}
use Rattle.plan_edges.specs.Wires.{carried, froms, ports_of}
use Rattle.cedr_worker.specs.declared.ran.Ran.{Ran}
use Rattle.cedr_worker.specs.declared.source.SourceEnd.{SourceEnd}
use Rattle.cedr_worker.specs.Sources.{SourceEnds}
use Rattle.cedr_worker.specs.declared.stop.SourceStop.TheVariants as stop
use Rattle.cedr_worker.specs.Stops.{last_at}
use Rattle.op_node.specs.Meanings.{meaning_of, port_levels}
use Rattle.plan_workers.specs.declared.ended.Ended.{Ended}
use Rattle.plan_workers.specs.declared.ended.Part.{Part}
use Rattle.plan_workers.specs.declared.ended.Part.TheVariants as part

-- ---- what is left, as lists

-- the ends of the edges of a worker's ports
abbrev pub takers_left : {S R : Type 0} → Ended S R → List InEnd
takers_left end = end.takers

-- the ends of the edges that come from its node
abbrev pub putters_left : {S R : Type 0} → Ended S R → List OutEnd
putters_left end = end.putters

-- how many messages its turns took and put
abbrev pub ran_left : {S R : Type 0} → Ended S R → Ran
ran_left end = end.ran

-- what is left of it besides
abbrev pub part_left : {S R : Type 0} → Ended S R → Part S R
part_left end = end.part

-- the end of a source, and none of any other node
abbrev pub source_left : {S R : Type 0} → Part S R → List (SourceEnd S)
source_left (part.Source end) = end ∷ []
source_left (part.Operator node lacked) = []
source_left (part.Output node lacked held) = []

-- what is left of the sources, in order
abbrev pub sources_left : {S R : Type 0} → List (Ended S R) → List (SourceEnd S)
sources_left [] = []
sources_left (e ∷ es) = source_left e.part ++ sources_left es

-- memory was lacking for a node that is no source
abbrev pub part_lacked : {S R : Type 0} → Part S R → Bool
part_lacked (part.Source end) = false
part_lacked (part.Operator node lacked) = lacked
part_lacked (part.Output node lacked held) = lacked

-- memory was lacking for the node at a place, which is no source
abbrev pub lacked_at : {S R : Type 0} → List (Ended S R) → ℕ → Bool
lacked_at [] place = false
lacked_at (e ∷ es) place = if nat_eq place 0 then part_lacked e.part else lacked_at es (place - 1)

-- ---- what went over the edges

-- The list that a source gave over each of its edges: the messages of the lines that were taken of it, and one last message.
pub record SourceWent {S : Type 0} (rest : S → Option (List ℕ)) (faults : S → ℕ) (node : PlanNode) (source : S) (end : SourceEnd S) (given : List Message) : Type 0 where
  pub shape : Shape
  pub types : ShapeHasTypes shape node.types.items
  pub ends : SourceEnds rest faults shape (rest source) (faults source) end
  pub given_is : given ≡ ends.given ++ last_message (last_at end.stop) ∷ []

-- what is left of the source of the node at a place: its end has that number, and no edges are left there
pub record IsBareEnd {S : Type 0} (place : ℕ) (end : SourceEnd S) : Type 0 where
  pub number : end.number ≡ place
  pub outputs : end.outputs.items ≡ []

-- The list of a node for which memory was lacking: it is lawful for the first messages of what came on the ports, and goes on
-- with one Broken alone.
pub record LostWent (node : PlanNode) (lists : Lists) (given : List Message) : Type 0 where
  pub before : Lists
  pub prefixes : ArePrefixes before lists
  pub first : List Message
  pub lawful : IsLawful (meaning_of node) (port_levels node) before first
  pub goes : is_over first ≡ false
  pub given_is : given ≡ first ++ message.Broken ∷ []

-- The lists of a plan's edges, port by port, and the list that each node gave. Each port has the list of the node that it
-- reads. A source gave what its end says; any other node is lawful from the lists on its ports to its own, where memory was
-- found for it. An output's list is what its port passes on. A source's end has the place of its node, and no edges.
pub record Went {S : Type 0} (rest : S → Option (List ℕ)) (faults : S → ℕ) (nodes : List PlanNode) (sources : List S) (ports : List Lists) (given : Lists) (lacked : ℕ → Bool) (ends : List (SourceEnd S)) : Type 0 where
  pub edges : (before after : List PlanNode) (n : PlanNode) → nodes ≡ before ++ n ∷ after → lists_at ports (length before) ≡ input_lists given n
  pub source : (before after : List PlanNode) (n : PlanNode) → nodes ≡ before ++ n ∷ after → is_source n.kind ≡ true → (s : S) (e : SourceEnd S) → SourceWent rest faults n (slice_index_or sources (source_count before) s) (slice_index_or ends (source_count before) e) (list_at given (length before))
  pub end : (before after : List PlanNode) (n : PlanNode) → nodes ≡ before ++ n ∷ after → is_source n.kind ≡ true → (e : SourceEnd S) → IsBareEnd (length before) (slice_index_or ends (source_count before) e)
  pub sound : (before after : List PlanNode) (n : PlanNode) → nodes ≡ before ++ n ∷ after → is_source n.kind ≡ false → lacked (length before) ≡ false → IsLawful (meaning_of n) (port_levels n) (lists_at ports (length before)) (list_at given (length before))
  pub lost : (before after : List PlanNode) (n : PlanNode) → nodes ≡ before ++ n ∷ after → is_source n.kind ≡ false → is_output n.kind ≡ false → lacked (length before) ≡ true → LostWent n (lists_at ports (length before)) (list_at given (length before))
  pub passed : (before after : List PlanNode) (n : PlanNode) → nodes ≡ before ++ n ∷ after → is_output n.kind ≡ true → list_at given (length before) ≡ pass n.level (list_at (lists_at ports (length before)) 0)

-- ---- how many messages the turns of each worker moved

-- how many messages went over the edges that come from a node, of all edges
abbrev pub count_from : ℕ → List ℕ → Lists → ℕ
count_from place [] lists = 0
count_from place (f ∷ fs) [] = 0
count_from place (f ∷ fs) (l ∷ ls) = (if nat_eq f place then length l else 0) + count_from place fs ls

-- how many messages a list has
abbrev pub message_count : List Message → ℕ
message_count ms = length ms

-- One for each node, numbered so. Its turns took what went over the edges of its ports, and put what went over those that
-- come from it.
pub record AreRan (nodes : List PlanNode) (edges : List Carried) (ran : List Ran) : Type 0 where
  pub count : length ran ≡ length nodes
  pub number : (k : ℕ) (d : Ran) → k < length nodes → (slice_index_or ran k d).number ≡ k
  pub taken : (k : ℕ) (d : Ran) → k < length nodes → (slice_index_or ran k d).taken ≡ as_u64 (sum_by message_count (lists_at (ports_of nodes (carried edges)) k))
  pub put : (k : ℕ) (d : Ran) → k < length nodes → (slice_index_or ran k d).put ≡ as_u64 (count_from k (froms nodes) (carried edges))

-- each source closed: it was read to its end, and all its lines were accepted
abbrev pub HaveClosed : {S : Type 0} → List (SourceEnd S) → Type 0
HaveClosed ends = All (λ end. end.stop ≡ stop.Closed) ends
