use Rattle.std.proofs.Common.{subst, List}
use Rattle.cedr_plan.specs.declared.plan.PlanNode.{PlanNode}
use Rattle.cedr_plan.specs.Places.{output_place}
use Rattle.plan_parts.specs.Feeds.{IsFedWhole}
use Rattle.plan_parts.specs.Parts.{keys_of}
use Rattle.plan_parts.proofs.AnswerLemmas.{part_rows, one_share}
use Rattle.plan_parts.proofs.answer.answer_part.Goals as goal

pub returns : goal.returns
returns c = λ histories whole tables remembers.
    let nodes = c.args.plan.now.nodes.items in
    let mine = keys_of c.args.share in
    let columns = c.args.columns.now in
    let lists = c.args.lists.now in
    let net = c.feed_whole.new.net in
    let h = subst (λ (ns : List PlanNode). IsFedWhole ns net mine columns lists) c.as_slice.ensures.value c.in_ok-feed_whole.ensures in
    let are = c.in_ok-rows.ensures nodes h.ports h.given h.stands in
    one_share columns histories nodes (output_place nodes) mine c.in_ok-rows.rows.items are.ordered
    (part_rows nodes net mine columns lists h c.network_runs.ensures.query histories whole tables remembers c.in_ok-rows.rows.items are)
