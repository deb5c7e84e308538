-- What holds of the worker of a plan's node at every moment, and what its turns come to.
use Rattle.std.specs.Prelude.{◌≡◌, ◌⊎◌, ℕ, ◌<◌, Bool, true, false, List, [], ◌∷◌, ◌++◌, length, map, slice_index_or, if◌then◌else◌}
use Rattle.std.specs.List.{All}
use Rattle.cedr_base.specs.declared.change.Message.{Message}
use Rattle.cedr_base.specs.declared.change.Message.TheVariants as message
use Rattle.cedr_base.specs.Messages.{IsLegal}
use Rattle.cedr_edge.specs.Ends.{InEnd, OutEnd}
use Rattle.node_laws.specs.Lists.{Lists}
use Rattle.node_laws.specs.Lawful.{is_over, all_over, has_broken, IsLawful}
use Rattle.cedr_node.specs.declared.node.Node.{Node}
use Rattle.cedr_node.specs.Nodes.{made_of, NodeStands}
use Rattle.worker_outlets.specs.Outgoing.{Outgoing}
use Rattle.worker_outlets.specs.Outlets.{AllTotal, AllStaged, NonePending, SomePut, SomeFull, outlet_edge, sent_of, total_of}
use Rattle.cedr_plan.specs.declared.plan.PlanNode.{PlanNode}
use Rattle.plan_runs.specs.Runs.{ArePrefixes}
use Rattle.cedr_worker.specs.Inputs.{KeptIn, SomeTaken, AllEmpty, taken_in, input_edge}
use Rattle.cedr_worker.specs.Tries.{AllTried}
use Rattle.op_node.specs.Meanings.{meaning_of, port_levels}

-- the list, and a break after it
abbrev pub with_break : Bool → List Message → List Message
with_break broke given = if broke then given ++ message.Broken ∷ [] else given

-- Memory was found: the node stands between the lists that were taken on its ports and the list that it gave. This list
-- is what was sent over each out edge, and then what is pending there.
pub record Sound (node : Node) (lists : Lists) (outlets : List Outgoing) : Type 0 where
  pub given : List Message
  pub stands : NodeStands node lists given
  pub all : AllTotal given outlets
  pub clean : AllStaged [] outlets

-- Memory was lacking: what is meant for each out edge is lawful for the first messages of the lists that were taken, and
-- goes on with nothing but one Broken, which comes once each input is over.
pub record Lost (made : PlanNode) (lists : Lists) (outlets : List Outgoing) (broke : Bool) : Type 0 where
  pub before : Lists
  pub prefixes : ArePrefixes before lists
  pub given : List Message
  pub lawful : IsLawful (meaning_of made) (port_levels made) before given
  pub legal : IsLegal given
  pub goes : is_over given ≡ false
  pub all : AllTotal (with_break broke given) outlets
  pub over : broke ≡ true → all_over lists ≡ true

-- what holds at every moment
pub record NodeWorks (node : Node) (lists : Lists) (outlets : List Outgoing) (lacked broke : Bool) : Type 0 where
  pub sound : lacked ≡ false → Sound node lists outlets
  pub lost : lacked ≡ true → Lost (made_of node) lists outlets broke
  pub whole : lacked ≡ false → broke ≡ false

-- something was put on an out edge, or taken from an input
abbrev pub MovedTurn : List Outgoing → List Outgoing → List InEnd → List InEnd → Type 0
MovedTurn old new inputs inputs' = SomePut old new ⊎ SomeTaken inputs inputs'

-- A turn in which nothing was put or taken. A pending message met a full queue, or nothing is pending and each open
-- input was found empty.
pub record IdleTurn (old new : List Outgoing) (inputs inputs' : List InEnd) : Type 0 where
  pub sent : map sent_of new ≡ map sent_of old
  pub taken : taken_in inputs' ≡ taken_in inputs
  pub cause : SomeFull old new ⊎ (NonePending new (length new) × AllEmpty inputs inputs')

-- A put was tried on each out edge. Of each input nothing or one message was taken. Where something was taken, all that was
-- pending before is sent.
pub record TurnSteps (old new : List Outgoing) (inputs inputs' : List InEnd) : Type 0 where
  pub puts : AllTried old new
  pub takes : (k : ℕ) (d : InEnd) → k < length inputs → KeptIn (slice_index_or inputs k d) (slice_index_or inputs' k d)
  pub first : SomeTaken inputs inputs' → (k : ℕ) (d : Outgoing) → k < length old → (slice_index_or new k d).sent ≡ total_of (slice_index_or old k d)

-- what the two rounds of a turn, first of puts and then of takes, came to
pub record TurnDone (old new : List Outgoing) (inputs inputs' : List InEnd) (moved : Bool) : Type 0 where
  pub in_edges : map input_edge inputs' ≡ map input_edge inputs
  pub out_edges : map outlet_edge new ≡ map outlet_edge old
  pub happened : moved ≡ true → MovedTurn old new inputs inputs'
  pub idle : moved ≡ false → IdleTurn old new inputs inputs'
  pub steps : TurnSteps old new inputs inputs'

-- no Broken was sent
abbrev pub NoneBroken : List Outgoing → Type 0
NoneBroken os = All (λ (o : Outgoing). has_broken o.sent ≡ false) os

-- what was sent in the end where memory was found: the list that the node gave, over each out edge
pub record SoundEnd (node : Node) (lists : Lists) (outputs : List OutEnd) : Type 0 where
  pub given : List Message
  pub stands : NodeStands node lists given
  pub sent : All (λ (e : OutEnd). e.sent ≡ given) outputs

-- what was sent in the end where memory was lacking: a list that is lawful for the first messages of what was taken, and
-- then one Broken
pub record LostEnd (made : PlanNode) (lists : Lists) (outputs : List OutEnd) : Type 0 where
  pub before : Lists
  pub prefixes : ArePrefixes before lists
  pub given : List Message
  pub lawful : IsLawful (meaning_of made) (port_levels made) before given
  pub legal : IsLegal given
  pub goes : is_over given ≡ false
  pub sent : All (λ (e : OutEnd). e.sent ≡ given ++ message.Broken ∷ []) outputs
