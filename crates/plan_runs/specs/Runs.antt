-- Runs of a plan: lists on the ports of each node, and the list that each node gave.
use Rattle.std.specs.Prelude.{ℕ, ◌≡◌, ◌<◌, List, [], ◌∷◌, ◌++◌, length, map, slice_index_or, true, false, if◌then◌else◌}
use Rattle.cedr_base.specs.declared.change.Message.{Message}
use Rattle.cedr_base.specs.Messages.{IsLegal}
use Rattle.cedr_plan.specs.declared.plan.PlanNode.{PlanNode}
use Rattle.node_laws.specs.Lists.{Lists, list_at}
use Rattle.node_laws.specs.Pass.{has_end}
use Rattle.node_laws.specs.Lawful.{has_broken, IsLawful}
use Rattle.cedr_plan.specs.Places.{is_source, source_count}
use Rattle.op_node.specs.Meanings.{meaning_of, port_levels}

-- the lists on the ports of the node at a place
abbrev pub lists_at : List Lists → ℕ → Lists
lists_at ports place = slice_index_or ports place []

-- the lists of the nodes that a node reads, one for each port
abbrev pub input_lists : Lists → PlanNode → Lists
input_lists given node = map (list_at given) node.inputs.items

-- the messages are the first ones of a list
pub record IsPrefix (ms whole : List Message) : Type 0 where
  pub rest : List Message
  pub all : ms ++ rest ≡ whole

-- each list has the first messages of another one
abbrev pub ArePrefixes : Lists → Lists → Type 0
ArePrefixes [] [] = Unit {0}
ArePrefixes [] (w ∷ ws) = ⊥
ArePrefixes (l ∷ ls) [] = ⊥
ArePrefixes (l ∷ ls) (w ∷ ws) = IsPrefix l w × ArePrefixes ls ws

-- What a node after others owes. A source gave its own list. Any other node is lawful from the lists on its ports to
-- the list that it gave.
pub record IsNodeRun (sources : Lists) (before : List PlanNode) (node : PlanNode) (lists : Lists) (given : List Message) : Type 0 where
  pub source : is_source node.kind ≡ true → given ≡ list_at sources (source_count before)
  pub lawful : is_source node.kind ≡ false → IsLawful (meaning_of node) (port_levels node) lists given

-- A run of a plan: each node owes what it does, and each port has the whole list of the node that it reads.
pub record IsRun (nodes : List PlanNode) (sources : Lists) (ports : List Lists) (given : Lists) : Type 0 where
  pub node : (before after : List PlanNode) (n : PlanNode) → nodes ≡ before ++ n ∷ after → IsNodeRun sources before n (lists_at ports (length before)) (list_at given (length before))
  pub edges : (before after : List PlanNode) (n : PlanNode) → nodes ≡ before ++ n ∷ after → lists_at ports (length before) ≡ input_lists given n

-- A partial run: the same, but a port may have only the first messages of the list of the node that it reads.
pub record IsPartialRun (nodes : List PlanNode) (sources : Lists) (ports : List Lists) (given : Lists) : Type 0 where
  pub node : (before after : List PlanNode) (n : PlanNode) → nodes ≡ before ++ n ∷ after → IsNodeRun sources before n (lists_at ports (length before)) (list_at given (length before))
  pub edges : (before after : List PlanNode) (n : PlanNode) → nodes ≡ before ++ n ∷ after → ArePrefixes (lists_at ports (length before)) (input_lists given n)

-- a whole list: legal, with its End, and not broken
pub record IsWhole (ms : List Message) : Type 0 where
  pub legal : IsLegal ms
  pub ended : has_end ms ≡ true
  pub unbroken : has_broken ms ≡ false

-- the list of each of so many nodes is whole
abbrev pub AllWhole : ℕ → Lists → Type 0
AllWhole count lists = (k : ℕ) → k < count → IsWhole (list_at lists k)

-- the lists of the sources among the nodes' lists, in plan order
abbrev pub sources_in : List PlanNode → Lists → Lists
sources_in [] given = []
sources_in (n ∷ nodes) [] = if is_source n.kind then [] ∷ sources_in nodes [] else sources_in nodes []
sources_in (n ∷ nodes) (g ∷ given) = if is_source n.kind then g ∷ sources_in nodes given else sources_in nodes given
