-- What is left of workers that ended.
use Rattle.std.specs.Prelude.{ℕ, ◌≡◌, true, false, Bool, List, [], ◌∷◌, ◌++◌, length, map, sum_by, Option}
use Rattle.std.specs.List.{All}
use Rattle.cedr_edge.specs.Ends.{InEnd, OutEnd, as_u64, taken_of}
use Rattle.cedr_history.specs.Ends.{Writing}
use Rattle.node_laws.specs.Lawful.{is_over}
use Rattle.node_laws.specs.Lists.{Lists, list_at}
use Rattle.cedr_node.specs.declared.node.Node.{Node}
use Rattle.cedr_node.specs.Nodes.{made_of, NodeStands}
use Rattle.worker_outlets.specs.Outgoing.{last_message}
use Rattle.cedr_plan.specs.Drawn.{node_of}
use Rattle.cedr_plan.specs.Places.{is_output, is_source}
use Rattle.cedr_text.specs.Shapes.{ShapeHasTypes}
use Rattle.plan_edges.specs.Wires.{in_edge, out_edge}
use Rattle.cedr_worker.specs.declared.source.SourceEnd.{SourceEnd}
use Rattle.cedr_worker.specs.Inputs.{taken_count}
use Rattle.cedr_worker.specs.Operators.{LostEnd, SoundEnd}
use Rattle.cedr_worker.specs.Outputs.{IsBeginning, output_list, passed_by}
use Rattle.cedr_worker.specs.Sources.{SourceEnds}
use Rattle.cedr_worker.specs.Stops.{last_at}
use Rattle.plan_workers.specs.declared.ended.Ended.{Ended}
use Rattle.plan_workers.specs.declared.ended.Part.{Part}
use Rattle.plan_workers.specs.declared.ended.Part.TheVariants as part
use Rattle.plan_workers.specs.Roles.{AllAs, Role}

-- A source that was sent to its end over these edges: the messages of the lines that were taken, and one last message. Its end
-- has the worker's number, and no edges, since they stand beside it.
pub record SourceEndsAs {S : Type 0} (rest : S → Option (List ℕ)) (faults : S → ℕ) (role : Role) (putters : List OutEnd) (end : SourceEnd S) : Type 0 where
  pub kind : is_source role.node.kind ≡ true
  pub takes : role.takes ≡ []
  pub number : end.number ≡ role.number
  pub outputs : end.outputs.items ≡ []
  pub types : ShapeHasTypes role.shape role.node.types.items
  pub ends : SourceEnds rest faults role.shape role.content role.count end
  pub sent : All (λ (e : OutEnd). e.sent ≡ ends.given ++ last_message (last_at end.stop) ∷ []) putters

-- the node of an operator, which took these lists
pub record OperatorEndsAs (role : Role) (lists : Lists) (putters : List OutEnd) (node : Node) (lacked : Bool) : Type 0 where
  pub source : is_source role.node.kind ≡ false
  pub output : is_output role.node.kind ≡ false
  pub made : node_of (made_of node) ≡ node_of role.node
  pub sound : lacked ≡ false → SoundEnd node lists putters
  pub lost : lacked ≡ true → LostEnd (made_of node) lists putters

-- The node of an output, which took one list, and the writer of the result. What is published is the output's list where
-- memory was found, and else a beginning of it.
pub record OutputEndsAs (role : Role) (lists : Lists) (putters : List OutEnd) (node : Node) (lacked : Bool) (w : Writing) : Type 0 where
  pub output : is_output role.node.kind ≡ true
  pub made : node_of (made_of node) ≡ node_of role.node
  pub one : lists ≡ list_at lists 0 ∷ []
  pub nobody : putters ≡ []
  pub stands : lacked ≡ false → NodeStands node lists (passed_by node (list_at lists 0))
  pub whole : lacked ≡ false → w.published ≡ output_list node (list_at lists 0)
  pub begun : IsBeginning node (list_at lists 0) w.published
  pub history : w.history ≡ role.history
  pub unconcluded : w.concluded ≡ false

-- the same by what is left of the worker: that of a source, of an operator, or of an output
abbrev pub PartEndsAs : {S R : Type 0} → (S → Option (List ℕ)) → (S → ℕ) → Role → Lists → List OutEnd → Part S R → Type 0
PartEndsAs rest faults role lists putters (part.Source end) = SourceEndsAs rest faults role putters end
PartEndsAs rest faults role lists putters (part.Operator node lacked) = OperatorEndsAs role lists putters node lacked
PartEndsAs rest faults role lists putters (part.Output node lacked held) = OutputEndsAs role lists putters node lacked held.writer

-- how many messages were sent over the edge of an end
abbrev pub sent_length : OutEnd → ℕ
sent_length e = length e.sent

-- What is left of a worker that was made for this: the ends of the same edges, each input over, how many messages its
-- turns took and put, and the rest.
pub record EndsAs {S R : Type 0} (rest : S → Option (List ℕ)) (faults : S → ℕ) (role : Role) (end : Ended S R) : Type 0 where
  pub number : end.ran.number ≡ role.number
  pub takes : map in_edge end.takers ≡ role.takes
  pub puts : map out_edge end.putters ≡ role.puts
  pub over : All (λ (e : InEnd). is_over e.taken ≡ true) end.takers
  pub ran_taken : end.ran.taken ≡ as_u64 (taken_count end.takers)
  pub ran_put : end.ran.put ≡ as_u64 (sum_by sent_length end.putters)
  pub part_is : PartEndsAs rest faults role (map taken_of end.takers) end.putters end.part

-- of each of some workers, in order
abbrev pub AllEndAs : {S R : Type 0} → (S → Option (List ℕ)) → (S → ℕ) → List Role → List (Ended S R) → Type 0
AllEndAs rest faults roles ends = AllAs (EndsAs rest faults) roles ends
