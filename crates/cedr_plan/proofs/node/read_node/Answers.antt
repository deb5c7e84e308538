use Rattle.std.proofs.Common.{map, sym, subst, IfErr, Option, ◌∙◌}
use Rattle.serde_json.specs.View.{view}
use Rattle.cedr_plan.specs.Drawn.{node_of}
use Rattle.cedr_plan.specs.NodeFaults.{IsNodeFault}
use Rattle.cedr_plan.specs.Nodes.{untyped_faults, typed_faults}
use Rattle.cedr_plan.specs.Operators.{operator_row}
use Rattle.cedr_plan.specs.declared.fault.PlanKind.{PlanKind}
use Rattle.cedr_plan.proofs.FaultLemmas.{first_in_front, first_behind, fault_known}
use Rattle.cedr_plan.proofs.node.read_node.Goals as goal

pub returns-in-Some-early_fault-clause-fault : goal.returns-in-Some-early_fault-clause-fault
returns-in-Some-early_fault-clause-fault c =
    let earlier = map node_of c.args.earlier.now in
    let d = view c.args.node.now in
    let row = operator_row c.in-Some.operator in
    fault_known c.args.version earlier d c.in-Some.operator c.in-Some.ensures
    ∙ first_in_front (untyped_faults row earlier d) (typed_faults row earlier d) c.in-Some-early_fault.kind (sym c.in-Some-early_fault.ensures)

pub returns-clause-fault : goal.returns-clause-fault
returns-clause-fault c =
    let earlier = map node_of c.args.earlier.now in
    let d = view c.args.node.now in
    let row = operator_row c.in-Some.operator in
    let known = fault_known c.args.version earlier d c.in-Some.operator c.in-Some.ensures ∙ first_behind (untyped_faults row earlier d) (typed_faults row earlier d) (sym c.in_default-early_fault.ensures) in
    subst (λ (found : Option PlanKind). IfErr c.build_node.result (IsNodeFault found)) (sym known) c.build_node.ensures.fault
