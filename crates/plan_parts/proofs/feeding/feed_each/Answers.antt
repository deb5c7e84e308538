use Rattle.std.proofs.Common.{◌<◌, length, ap, sym, ◌∙◌, rules}
use Rattle.cedr_plan.specs.declared.plan.PlanNode.{PlanNode}
use Rattle.cedr_plan.specs.Places.{is_source}
use Rattle.plan_parts.specs.Parts.{keys_of}
use Rattle.plan_parts.proofs.FeedLemmas.{no_source, next_of, fed_other, fed_source}
use Rattle.plan_parts.proofs.feeding.feed_each.Goals as goal

pub loop-place-preserved-then-not-is_source : goal.loop-place-preserved-then-not-is_source
loop-place-preserved-then-not-is_source c =
    let nodes = c.args.nodes.now in
    let place = c.loop-place.place in
    let within : place < length nodes = search rules in
    fed_other nodes (keys_of c.args.share) c.args.columns.now c.args.lists.now c.loop-place.net place c.args.from c.args.until
    (no_source nodes place c.index-nodes-place.result within c.index-nodes-place.is (ap (λ (m : PlanNode). is_source m.kind) c.index-nodes-place.is ∙ (sym c.is_source.ensures ∙ c.if-not-is_source.true))) c.loop-place.invariant

pub feed_source-requires-clause-net : goal.feed_source-requires-clause-net
feed_source-requires-clause-net c =
    let nodes = c.args.nodes.now in
    let place = c.loop-place.place in
    let inv = c.loop-place.invariant in
    let within : place < length nodes = search rules in
    let next = next_of nodes (keys_of c.args.share) c.args.columns.now c.args.lists.now c.loop-place.net place c.args.from c.args.until c.index-nodes-place.result c.index-lists-place.result c.between-messages.result.now inv c.requires.lists within
    c.index-nodes-place.is (ap (λ (m : PlanNode). is_source m.kind) c.index-nodes-place.is ∙ (sym c.is_source.ensures ∙ c.if-not-is_source.false)) c.index-lists-place.is c.between-messages.ensures in
    (nodes, inv.ports, inv.given, inv.stands, within, next.source, next.may)

pub loop-place-preserved : goal.loop-place-preserved
loop-place-preserved c =
    let nodes = c.args.nodes.now in
    let place = c.loop-place.place in
    let inv = c.loop-place.invariant in
    let within : place < length nodes = search rules in
    let next = next_of nodes (keys_of c.args.share) c.args.columns.now c.args.lists.now c.loop-place.net place c.args.from c.args.until c.index-nodes-place.result c.index-lists-place.result c.between-messages.result.now inv c.requires.lists within
    c.index-nodes-place.is (ap (λ (m : PlanNode). is_source m.kind) c.index-nodes-place.is ∙ (sym c.is_source.ensures ∙ c.if-not-is_source.false)) c.index-lists-place.is c.between-messages.ensures in
    fed_source nodes (keys_of c.args.share) c.args.columns.now c.args.lists.now c.loop-place.net c.feed_source.new.net place c.args.from c.args.until c.between-messages.result.now inv within next.next
    (c.in_ok-feed_source.ensures nodes inv.ports inv.given inv.stands within next.source next.may)
