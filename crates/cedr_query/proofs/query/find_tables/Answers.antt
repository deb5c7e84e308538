use Rattle.std.proofs.Common.{◌≡◌, ◌<◌, ◌+◌, ◌++◌, ◌∷◌, ◌∙◌, [], sym, ap, subst, arith, length, take}
use Rattle.cedr_plan.specs.declared.plan.PlanNode.{PlanNode}
use Rattle.cedr_table.specs.Operators.{Tables, SameTables, HaveRows}
use Rattle.cedr_query.specs.Queries.{each_node, node_table}
use Rattle.cedr_query.proofs.NodeLemmas.{one_node_more, same_tables_push, are_rows_push}
use Rattle.cedr_query.proofs.QueryLemmas.{plan_ready}
use Rattle.cedr_plan.proofs.PlaceLemmas.{plan_reads}
use Rattle.cedr_query.proofs.query.find_tables.Goals as goal

pub find_table-requires-clause-ready : goal.find_table-requires-clause-ready
find_table-requires-clause-ready c = plan_ready c.args.plan.now.nodes.items c.as_slice-nodes.result.now c.loop-place.place c.index-nodes-place.result c.as_slice-nodes.ensures.value c.requires.plan.nodes (omega arith) c.index-nodes-place.is

pub find_table-requires-clause-inputs : goal.find_table-requires-clause-inputs
find_table-requires-clause-inputs c = λ k d there.
    omega (
      arith,
      plan_reads c.args.plan.now.nodes.items c.as_slice-nodes.result.now c.loop-place.place c.index-nodes-place.result c.as_slice-nodes.ensures.value c.requires.plan.nodes (omega arith) c.index-nodes-place.is k d there,
      ap (λ (ts : Tables). length ts) c.as_slice.ensures.value,
      c.loop-place.invariant.len,
    )

pub loop-place-preserved : goal.loop-place-preserved
loop-place-preserved c =
    let l = c.loop-place in
    let nodes = c.as_slice-nodes.result.now in
    let i = c.loop-place.place in
    let node = c.index-nodes-place.result in
    let tables = l.tables.items in
    let sources = c.args.sources.now in
    let within : c.loop-place.place < length c.as_slice-nodes.result.now = omega arith in
    let us = each_node (node_table sources) [] [] (take i nodes) in
    let u = node_table sources (take i nodes) us node in
    let t = c.in_ok-table.table in
    let all : each_node (node_table c.args.sources.now) [] [] (take (c.loop-place.place + 1) c.as_slice-nodes.result.now) ≡ us ++ u ∷ [] =
    one_node_more (node_table sources) nodes i node within
    ∙ ap (λ (n : PlanNode). us ++ node_table sources (take i nodes) us n ∷ []) (sym c.index-nodes-place.is) in
    let here = c.in_ok-table.ensures.same us (subst (λ (ts : Tables). SameTables ts us) (sym c.as_slice.ensures.value) l.invariant.same) in
    record {
      same = subst (λ (ts : Tables). SameTables ts (each_node (node_table sources) [] [] (take (i + 1) nodes))) (sym c.in_ok-push.ensures.items)
          (subst (λ (vs : Tables). SameTables (tables ++ t ∷ []) vs) (sym all) (same_tables_push tables us t u l.invariant.same here));
      rows = subst (λ (ts : Tables). HaveRows ts) (sym c.in_ok-push.ensures.items) (are_rows_push tables t l.invariant.rows c.in_ok-table.ensures.rows);
      len = omega (arith, c.in_ok-push.ensures.len, l.invariant.len);
    }
