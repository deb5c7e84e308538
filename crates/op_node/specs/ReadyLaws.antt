-- A node of an accepted plan has what its operator asks of it.
use Rattle.std.proofs.Common.{◌≡◌, ℕ, ◌≤◌, List, [], ◌∷◌, false, length, arith}
use Rattle.std.specs.Prelude.{All}
use Rattle.std.proofs.lemmas.List.Elements.{All-head, All-tail}
use Rattle.std.proofs.lemmas.List.{length-map}
use Rattle.cedr_plan.specs.declared.plan.NodeKind.{NodeKind}
use Rattle.cedr_plan.specs.declared.plan.NodeKind.TheVariants as kind
use Rattle.cedr_plan.specs.declared.plan.PlanNode.{PlanNode}
use Rattle.cedr_plan.specs.Drawn.{Node, node_of}
use Rattle.cedr_plan.specs.Operators.{operator_row}
use Rattle.cedr_base.specs.declared.field.FieldType.{FieldType}
use Rattle.cedr_plan.specs.Rules.{operator_of_kind, numbers_of, port_types, IsNumber, IsNode, FitsPorts}
use Rattle.cedr_plan.specs.Nodes.{types_of}
use Rattle.op_node.specs.Ready.{IsReady}
use Rattle.cedr_plan.specs.Places.{is_source}

ready_from : (k : NodeKind) (ports : ℕ) → is_source k ≡ false → (operator_row (operator_of_kind k)).least ≤ ports → ports ≤ (operator_row (operator_of_kind k)).most → All IsNumber (numbers_of k)
    → (types : List (List FieldType)) → length types ≡ ports → FitsPorts k types → IsReady k ports
ready_from (kind.Source file) ports isnt least most numbers types size fits = cc
ready_from (kind.Select tests) ports isnt least most numbers types size fits = omega arith
ready_from (kind.Project keep) ports isnt least most numbers types size fits = omega arith
ready_from kind.Union ports isnt least most numbers types size fits = (omega arith, omega arith)
ready_from (kind.Join tests) ports isnt least most numbers types size fits = omega arith
ready_from (kind.Window width) ports isnt least most numbers types size fits = let n = All-head IsNumber width [] numbers in (omega arith, record { least = n.0; most = n.1 })
ready_from (kind.Shift by) ports isnt least most numbers types size fits = let n = All-head IsNumber by [] numbers in (omega arith, record { least = n.0; most = n.1 })
ready_from (kind.Hop every width) ports isnt least most numbers types size fits =
    let n = All-head IsNumber every (width ∷ []) numbers in
    let m = All-head IsNumber width [] (All-tail IsNumber every (width ∷ []) numbers) in
    (omega arith, record { least = n.0; most = n.1 }, record { least = m.0; most = m.1 })
ready_from kind.Starts ports isnt least most numbers types size fits = omega arith
ready_from kind.Ends ports isnt least most numbers types size fits = omega arith
ready_from (kind.Group keys count sums lows highs) ports isnt least most numbers types size fits = omega arith
ready_from (kind.Sequence scope tests) ports isnt least most numbers types size fits = let n = All-head IsNumber scope [] numbers in (omega arith, omega arith, record { least = n.0; most = n.1 })
ready_from (kind.Unless scope hold tests) ports isnt least most numbers types size fits =
    let n = All-head IsNumber scope (hold ∷ []) numbers in
    let m = All-head IsNumber hold [] (All-tail IsNumber scope (hold ∷ []) numbers) in
    (omega arith, record { least = n.0; most = n.1 }, record { least = m.0; most = m.1 })
ready_from (kind.AtLeast number scope tests) ports isnt least most numbers types size fits =
    let n = All-head IsNumber scope [] numbers in
    let some = fits.0.0 in
    let enough = fits.0.1 in
    (omega arith, omega arith, (some, omega arith), record { least = n.0; most = n.1 })
ready_from (kind.Except tests) ports isnt least most numbers types size fits = omega arith
ready_from kind.Output ports isnt least most numbers types size fits = omega arith

-- a node of a plan that is no source has what its operator asks for
pub node_ready : (before : List Node) (node : PlanNode) → IsNode before (node_of node) → is_source node.kind ≡ false → IsReady node.kind (length node.inputs.items)
node_ready before node is isnt = ready_from node.kind (length node.inputs.items) isnt is.least_ports is.most_ports is.numbers (port_types before (node_of node)) (length-map node.inputs.items (types_of before)) is.fits
