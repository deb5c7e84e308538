use Rattle.std.proofs.Common.{◌≡◌, ◌<◌, ◌∙◌, sym, ap, subst, ℕ, List, arith, length}
use Rattle.cedr_base.specs.declared.row.Row.{Row}
use Rattle.cedr_base.specs.Rows.{SameRows}
use Rattle.cedr_plan.specs.declared.plan.PlanNode.{PlanNode}
use Rattle.cedr_table.specs.Operators.{table_at}
use Rattle.cedr_table.specs.PortLaws.{same_at}
use Rattle.cedr_query.specs.Queries.{query}
use Rattle.cedr_plan.specs.Places.{output_place}
use Rattle.cedr_query.proofs.Feeding.{read_is}
use Rattle.cedr_plan.proofs.PlaceLemmas.{has_node}
use Rattle.cedr_query.proofs.query.evaluate.Goals as goal

pub returns : goal.returns
returns c =
    let tables = c.in_ok-tables.tables.items in
    let nodes = c.args.plan.now.nodes.items in
    let q = query c.args.sources.now nodes in
    let place = c.find_output-place.result in
    let t = c.remove.result in
    let long : length c.as_slice.result.now ≡ length c.args.plan.now.nodes.items = ap (λ (ns : List PlanNode). length ns) c.as_slice.ensures.value in
    let some : 0 < length c.as_slice.result.now = omega (arith, has_node nodes c.requires.plan.one_output, long) in
    let within : c.find_output-place.result < length c.in_ok-tables.tables.items = omega (arith, c.find_output-place.ensures.within some, long, c.in_ok-tables.ensures.len) in
    let at = read_is tables place t within c.remove.ensures.value in
    let place_is = c.find_output-place.ensures.place ∙ ap (λ (ns : List PlanNode). output_place ns) c.as_slice.ensures.value in
    subst (λ (p : ℕ). SameRows t (table_at q p)) place_is
    (subst (λ (rows : List Row). SameRows rows (table_at q place)) (sym at) (same_at place tables q c.in_ok-tables.ensures.same))
