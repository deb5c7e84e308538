-- What a plan's node means.
use Rattle.std.specs.Prelude.{ℕ, List, length, replicate}
use Rattle.cedr_base.specs.declared.level.Level.{Level}
use Rattle.cedr_plan.specs.declared.plan.NodeKind.TheVariants as kind
use Rattle.cedr_plan.specs.declared.plan.NodeKind.{NodeKind}
use Rattle.cedr_plan.specs.declared.plan.PlanNode.{PlanNode}
use Rattle.cedr_table.specs.Operators.{Meaning}
use Rattle.cedr_table.specs.RowWise.{row_wise}
use Rattle.op_row.specs.Rows.{selected, projected}
use Rattle.op_row.specs.Unions.{union_of}
use Rattle.op_join.specs.Joins.{join_of}
use Rattle.op_except.specs.Parts.{except_of}
use Rattle.op_life.specs.Lifetimes.{with_life, windowed, shifted, shifted_mark, hopped, hopped_mark, started, ended}
use Rattle.op_group.specs.Groups.{grouping_by, group_of}
use Rattle.pat_seq.specs.Sequences.{sequence_of}
use Rattle.pat_unless.specs.Blocking.{unless_of}
use Rattle.pat_atleast.specs.AtLeasts.{at_least_of}
use Rattle.op_node.specs.Outputs.{handed_on}

-- what a kind of node means that has so many ports; a source has none, and is never asked
abbrev pub node_meaning : NodeKind → ℕ → Meaning
node_meaning (kind.Source file) ports = handed_on
node_meaning (kind.Select tests) ports = row_wise (selected tests) (λ mark. mark)
node_meaning (kind.Project keep) ports = row_wise (projected keep) (λ mark. mark)
node_meaning kind.Union ports = union_of ports
node_meaning (kind.Join tests) ports = join_of tests
node_meaning (kind.Window width) ports = row_wise (with_life (windowed width)) (λ mark. mark)
node_meaning (kind.Shift by) ports = row_wise (with_life (shifted by)) (shifted_mark by)
node_meaning (kind.Hop every width) ports = row_wise (with_life (hopped every width)) (hopped_mark every)
node_meaning kind.Starts ports = row_wise (with_life started) (λ mark. mark)
node_meaning kind.Ends ports = row_wise (with_life ended) (λ mark. mark)
node_meaning (kind.Group keys count sums least greatest) ports = group_of (grouping_by keys count sums least greatest)
node_meaning (kind.Sequence scope tests) ports = sequence_of ports scope tests
node_meaning (kind.Unless scope hold tests) ports = unless_of scope hold tests
node_meaning (kind.AtLeast number scope tests) ports = at_least_of ports number scope tests
node_meaning (kind.Except tests) ports = except_of tests
node_meaning kind.Output ports = handed_on

-- what a plan's node means, which has a port for each of its inputs
abbrev pub meaning_of : PlanNode → Meaning
meaning_of node = node_meaning node.kind (length node.inputs.items)

-- the level of each port of a plan's node
abbrev pub port_levels : PlanNode → List Level
port_levels node = replicate (length node.inputs.items) node.level
