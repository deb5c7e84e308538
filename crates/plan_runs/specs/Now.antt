-- A plan as it stands: a table and a mark for each node, made of the tables and the marks of the sources.
use Rattle.std.specs.Prelude.{ℕ, ◌≡◌, ◌<◌, List, [], ◌∷◌, ◌++◌, length, map, slice_index, slice_index_or, not, nat_lt, if◌then◌else◌, ◌⊎◌, Option, Some, None}
use Rattle.std.specs.List.{filter}
use Rattle.cedr_base.specs.declared.level.Level.{Level}
use Rattle.cedr_base.specs.declared.row.Row.{Row}
use Rattle.cedr_base.specs.declared.change.Message.{Message}
use Rattle.cedr_base.specs.Messages.{IsTableOf, mark_of}
use Rattle.cedr_plan.specs.declared.plan.PlanNode.{PlanNode}
use Rattle.cedr_plan.specs.Places.{is_output, is_source, source_count}
use Rattle.cedr_table.specs.Operators.{Tables, table_at, mark_at}
use Rattle.cedr_query.specs.Queries.{each_node}
use Rattle.node_laws.specs.Lists.{Lists, AreTables}
use Rattle.node_laws.specs.Pass.{least_begin}
use Rattle.op_node.specs.Meanings.{meaning_of}
use Rattle.plan_runs.specs.Middle.{IsGoing, AllGoing, AreMarks}

-- ---- what stands at a node

-- a table, and its mark
pub record Standing : Type 0 where
  pub table : List Row
  pub mark : ℕ

-- what stands at a place, and nothing where there is no such place
abbrev pub standing_at : List Standing → ℕ → Standing
standing_at standings place = slice_index_or standings place (record { table = []; mark = 0 })

-- what stands at the nodes that a node reads, one for each port
abbrev pub inputs_standing : List Standing → PlanNode → List Standing
inputs_standing standings node = map (standing_at standings) node.inputs.items

-- the rows that a port with this block passes: where the block is without limit those that end before the mark, else all
abbrev pub passed_now : Option ℕ → Standing → List Row
passed_now None s = filter (λ (r : Row). nat_lt r.end s.mark) s.table
passed_now (Some block) s = s.table

-- and its front: where the block is without limit the least of the mark and the begins of the other rows, else the mark
abbrev pub front_now : Option ℕ → Standing → ℕ
front_now None s = least_begin s.mark (filter (λ (r : Row). not (nat_lt r.end s.mark)) s.table)
front_now (Some block) s = s.mark

-- what stands at a node that is no source: its result and its bound, at what its ports pass and at their fronts
abbrev pub made_now : PlanNode → List Standing → Standing
made_now node took = record {
  table = (meaning_of node).result (map (passed_now node.level.block) took);
  mark = (meaning_of node).bound (map (passed_now node.level.block) took) (map (front_now node.level.block) took);
}

-- what stands at a node after others: a source has its own table and mark
abbrev pub node_now : Tables → List ℕ → List PlanNode → List Standing → PlanNode → Standing
node_now tables marks before standings node =
    if is_source node.kind then record { table = table_at tables (source_count before); mark = mark_at marks (source_count before) } else made_now node (inputs_standing standings node)

-- what stands at each node, from one table and one mark for each source
abbrev pub standings : Tables → List ℕ → List PlanNode → List Standing
standings tables marks nodes = each_node (node_now tables marks) [] [] nodes

-- ---- the plan

-- what an output shows: the rows that its port passes, and the mark of the node that it reads
abbrev pub shown_now : List Standing → PlanNode → Standing
shown_now standings node = record {
  table = passed_now node.level.block (standing_at standings (slice_index node.inputs.items 0));
  mark = (standing_at standings (slice_index node.inputs.items 0)).mark;
}

-- the same of the first output among nodes
abbrev pub output_now : List Standing → List PlanNode → Standing
output_now standings [] = record { table = []; mark = 0 }
output_now standings (node ∷ nodes) = if is_output node.kind then shown_now standings node else output_now standings nodes

-- a plan as it stands: what its output shows
abbrev pub now : Tables → List ℕ → List PlanNode → Standing
now tables marks nodes = output_now (standings tables marks nodes) nodes

-- ---- levels and runs

-- A level at which what stands at a node is all that counts: its block is 0 or without limit, and its memory is without
-- limit. What ports of other levels forget and hold depends on the order in which messages came.
pub record CanSave (level : Level) : Type 0 where
  pub block : (level.block ≡ Some 0) ⊎ (level.block ≡ None)
  pub memory : level.memory ≡ None

-- each of so many nodes has such a level
abbrev pub AllCanSave : ℕ → List PlanNode → Type 0
AllCanSave count nodes = (before after : List PlanNode) (n : PlanNode) → nodes ≡ before ++ n ∷ after → length before < count → CanSave n.level

-- a list that goes on, with this table and this mark
pub record StandsAt (ms : List Message) (rows : List Row) (mark : ℕ) : Type 0 where
  pub going : IsGoing ms
  pub table : IsTableOf ms rows
  pub mark_is : mark_of ms ≡ mark

-- the list of each source goes on, with its table and its mark
pub record SourcesStand (nodes : List PlanNode) (sources : Lists) (tables : Tables) (marks : List ℕ) : Type 0 where
  pub going : AllGoing (source_count nodes) sources
  pub tables_are : AreTables sources tables
  pub marks_are : AreMarks (source_count nodes) sources marks
