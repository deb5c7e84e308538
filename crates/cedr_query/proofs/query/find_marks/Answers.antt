use Rattle.std.proofs.Common.{◌≡◌, ◌<◌, ◌+◌, ◌++◌, ◌∷◌, ◌∙◌, [], sym, ap, subst, ℕ, List, arith, length, take}
use Rattle.cedr_plan.specs.declared.plan.PlanNode.{PlanNode}
use Rattle.cedr_table.specs.Operators.{Tables, AreTimes}
use Rattle.cedr_query.specs.Queries.{each_node, node_mark}
use Rattle.cedr_query.proofs.NodeLemmas.{one_node_more}
use Rattle.cedr_query.proofs.QueryLemmas.{plan_ready, times_push}
use Rattle.cedr_plan.proofs.PlaceLemmas.{plan_reads}
use Rattle.cedr_query.proofs.query.find_marks.Goals as goal

pub find_mark-requires-clause-ready : goal.find_mark-requires-clause-ready
find_mark-requires-clause-ready c = plan_ready c.args.plan.now.nodes.items c.as_slice-nodes.result.now c.loop-place.place c.index-nodes-place.result c.as_slice-nodes.ensures.value c.requires.plan.nodes (omega arith) c.index-nodes-place.is

pub find_mark-requires-clause-inputs : goal.find_mark-requires-clause-inputs
find_mark-requires-clause-inputs c = λ k d there.
    omega (
      arith,
      plan_reads c.args.plan.now.nodes.items c.as_slice-nodes.result.now c.loop-place.place c.index-nodes-place.result c.as_slice-nodes.ensures.value c.requires.plan.nodes (omega arith) c.index-nodes-place.is k d there,
      ap (λ (ns : List PlanNode). length ns) c.as_slice-nodes.ensures.value,
      c.requires.tables,
    )

pub find_mark-requires-clause-earlier : goal.find_mark-requires-clause-earlier
find_mark-requires-clause-earlier c = λ k d there.
    omega (
      arith,
      plan_reads c.args.plan.now.nodes.items c.as_slice-nodes.result.now c.loop-place.place c.index-nodes-place.result c.as_slice-nodes.ensures.value c.requires.plan.nodes (omega arith) c.index-nodes-place.is k d there,
      ap (λ (ms : List ℕ). length ms) c.as_slice.ensures.value,
      c.loop-place.invariant.len,
    )

pub loop-place-preserved : goal.loop-place-preserved
loop-place-preserved c =
    let l = c.loop-place in
    let nodes = c.as_slice-nodes.result.now in
    let i = c.loop-place.place in
    let node = c.index-nodes-place.result in
    let sources = c.args.sources.now in
    let within : c.loop-place.place < length c.as_slice-nodes.result.now = omega arith in
    let m = c.in_ok-mark.mark in
    let next : (others : Tables) → c.loop-place.marks.items ≡ each_node (node_mark others c.args.sources.now) [] [] (take c.loop-place.place c.as_slice-nodes.result.now)
    → c.in_ok-mark.mark ≡ node_mark others c.args.sources.now (take c.loop-place.place c.as_slice-nodes.result.now) c.as_slice.result.now c.index-nodes-place.result
    → c.push.new.self.items ≡ each_node (node_mark others c.args.sources.now) [] [] (take (c.loop-place.place + 1) c.as_slice-nodes.result.now) =
    λ others was here.
    let us = each_node (node_mark others sources) [] [] (take i nodes) in
    c.in_ok-push.ensures.items
    ∙ (ap (λ (ms : List ℕ). ms ++ m ∷ []) was
    ∙ (ap (λ (x : ℕ). us ++ x ∷ []) (here ∙ ap (λ (ms : List ℕ). node_mark others sources (take i nodes) ms node) (c.as_slice.ensures.value ∙ was))
    ∙ sym (one_node_more (node_mark others sources) nodes i node within ∙ ap (λ (n : PlanNode). us ++ node_mark others sources (take i nodes) us n ∷ []) (sym c.index-nodes-place.is)))) in
    record {
      is = λ others same. next others (l.invariant.is others same) (c.in_ok-mark.ensures.is others same);
      times = subst (λ (ms : List ℕ). AreTimes ms) (sym c.in_ok-push.ensures.items) (times_push l.marks.items m l.invariant.times c.in_ok-mark.ensures.time);
      len = omega (arith, c.in_ok-push.ensures.len, l.invariant.len);
    }
