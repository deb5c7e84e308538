use Rattle.std.proofs.Common.{◌≡◌, ◌∙◌, List, None, Result, Err, IfErr, map, ap, sym, subst, ℕ}
use Rattle.std.proofs.lemmas.Result.{err_from_is_err_and}
use Rattle.serde_json.specs.View.{view}
use Rattle.cedr_plan.specs.Drawn.{node_of}
use Rattle.cedr_plan.specs.Nodes.{types_of, first_port, all_ports, counted_ports, has_unlike_ports, first_fault, typed_faults}
use Rattle.cedr_plan.specs.NodeFaults.{IsNodeFault, column_fault}
use Rattle.cedr_plan.specs.Operators.{operator_row}
use Rattle.cedr_plan.specs.declared.fault.NodeFault.{NodeFault}
use Rattle.cedr_plan.specs.declared.plan.PlanNode.{PlanNode}
use Rattle.cedr_plan.proofs.UnlikeLemmas.{only_unlike, only_columns}
use Rattle.cedr_plan.proofs.node.build_node.Goals as goal

pub returns-then-has_unlike_ports-clause-fault : goal.returns-then-has_unlike_ports-clause-fault
returns-then-has_unlike_ports-clause-fault c =
    let ports_of = λ (places : List ℕ). map (types_of (map node_of c.args.earlier.now)) places in
    only_unlike (map node_of c.args.earlier.now) (operator_row c.args.operator) (view c.args.node.now) c.row-outcome.result.outcome (ports_of c.in_ok-inputs.inputs.items) c.first_port.result.now c.as_slice-3.result.now c.as_slice-4.result.now c.in_ok-result_width.field-0
    c.row-outcome.ensures.outcome (ap ports_of c.in_ok-inputs.ensures)
    (c.first_port.ensures ∙ ap (λ places. first_port (ports_of places)) c.as_slice-2.ensures.value)
    (c.as_slice-3.ensures.value ∙ (c.in_ok-columns.ensures ∙ ap (λ places. all_ports (counted_ports c.row-outcome.result.outcome (view c.args.node.now) (ports_of places))) c.as_slice.ensures.value))
    (c.as_slice-4.ensures.value ∙ c.in_ok-types.ensures) c.in_ok-result_width.ensures c.if-branch-gt-WIDEST.false
    (subst (λ types. column_fault types (operator_row c.args.operator).members (view c.args.node.now) ≡ None) (c.as_slice-5.ensures.value ∙ sym c.as_slice-3.ensures.value) c.in_ok-kind.ensures.fit)
    (ap (λ places. has_unlike_ports c.row-outcome.result.outcome (ports_of places)) (sym c.as_slice-6.ensures.value) ∙ (sym c.has_unlike_ports.ensures ∙ c.if-has_unlike_ports.true))

pub returns-in_err-kind-clause-fault : goal.returns-in_err-kind-clause-fault
returns-in_err-kind-clause-fault c =
    let ports_of = λ (places : List ℕ). map (types_of (map node_of c.args.earlier.now)) places in
    let found = c.in_err-kind.field-0.0 in
    let q = err_from_is_err_and c.from_residual-in_err-kind.result c.from_residual-in_err-kind.ensures.1 in
    subst (λ (r : Result PlanNode NodeFault). IfErr r (IsNodeFault (first_fault (typed_faults (operator_row c.args.operator) (map node_of c.args.earlier.now) (view c.args.node.now))))) (sym (q.1 ∙ ap (λ f. Err f) q.2))
    (only_columns (map node_of c.args.earlier.now) (operator_row c.args.operator) (view c.args.node.now) c.row-outcome.result.outcome (ports_of c.in_ok-inputs.inputs.items) c.first_port.result.now c.as_slice-3.result.now c.as_slice-4.result.now c.in_ok-result_width.field-0
    c.row-outcome.ensures.outcome (ap ports_of c.in_ok-inputs.ensures)
    (c.first_port.ensures ∙ ap (λ places. first_port (ports_of places)) c.as_slice-2.ensures.value)
    (c.as_slice-3.ensures.value ∙ (c.in_ok-columns.ensures ∙ ap (λ places. all_ports (counted_ports c.row-outcome.result.outcome (view c.args.node.now) (ports_of places))) c.as_slice.ensures.value))
    (c.as_slice-4.ensures.value ∙ c.in_ok-types.ensures) c.in_ok-result_width.ensures c.if-branch-gt-WIDEST.false found
    (subst (λ types. IsNodeFault (column_fault types (operator_row c.args.operator).members (view c.args.node.now)) found) (c.as_slice-5.ensures.value ∙ sym c.as_slice-3.ensures.value) c.in_err-kind.ensures.fault))
