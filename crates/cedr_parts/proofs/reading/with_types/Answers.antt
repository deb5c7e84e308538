use Rattle.std.proofs.Common.{◌≡◌, ◌+◌, ◌∙◌, ℕ, List, arith, ap, false, get_or, length, refl, rules, subst, sym, take, true}
use Rattle.std.specs.List.{All}
use Rattle.std.specs.Vec.{vec_capacity}
use Rattle.cedr_plan.specs.Places.{is_source, source_count}
use Rattle.cedr_parts.specs.Reading.{IsUnread}
use Rattle.cedr_parts.proofs.ReadingLemmas.{FoundUpTo, all_more, count_more, found_all, found_at, found_none, found_other, found_source_more, left_other, left_some, left_source, length_more, number_within}
use Rattle.cedr_parts.proofs.reading.with_types.Goals as goal
use Rattle.cedr_parts.proofs.reading.with_types.Goals.{then-is_source, else-is_source}

pub loop-node-init : goal.loop-node-init
loop-node-init g c = record {
  left = c.from_vec-rest.ensures.items;
  found = λ content found. found_none g.S.Source.rest content c.args.nodes.now c.args.found.now.items;
  fresh = λ all k d h. absurd (omega (arith, h, c.requires.none));
  count = c.requires.none;
  room = refl;
}

pub next_source-requires : goal.next_source-requires
next_source-requires g c =
    left_some c.args.nodes.now c.loop-node.node-index c.node-item.result c.loop-node-test.true c.node-item.is c.args.sources.items c.requires.count c.loop-node.rest.items c.loop-node.invariant.left (search rules)

pub loop-node-preserved : goal.loop-node-preserved
loop-node-preserved g c =
    let nodes = c.args.nodes.now in
    let sources = c.args.sources.items in
    let counted = c.requires.count in
    let loop = c.loop-node in
    let place = loop.node-index in
    let inv = loop.invariant in
    let n = c.node-item.result in
    let within = c.loop-node-test.true in
    let at = c.node-item.is in
    let rest = g.S.Source.rest in
    let number = source_count (take place nodes) in
    record {
      left = elim c.if-is_source.branch [
        | then-is_source w ↦
            ap (λ r. r.items) w.rest-is
            ∙ (left_source nodes place n within at sources counted loop.rest.items w.next_source.new.rest.items w.next_source.result inv.left (sym c.is_source.ensures ∙ w.if-is_source.true) w.next_source.ensures).1
        | else-is_source w ↦ ap (λ r. r.items) w.rest-is ∙ left_other nodes place n within at sources counted loop.rest.items inv.left (sym c.is_source.ensures ∙ w.if-is_source.false)
      ];
      found = λ content found. elim c.if-is_source.branch [
        | then-is_source w ↦
            let is = sym c.is_source.ensures ∙ w.if-is_source.true in
            let own = (left_source nodes place n within at sources counted loop.rest.items w.next_source.new.rest.items w.next_source.result inv.left is w.next_source.ensures).0 in
            subst (λ fs. FoundUpTo rest content nodes (place + 1) fs) (sym (ap (λ v. v.items) w.found-is ∙ w.push_reserved.ensures.items))
            (found_source_more rest content nodes place n within at loop.found.items (inv.found content found) _ inv.count
            (found_at rest content nodes sources place n w.next_source.result found within at is (number_within nodes place n within at sources counted is) own) w.as_slice.ensures.value)
        | else-is_source w ↦
            subst (λ fs. FoundUpTo rest content nodes (place + 1) fs) (sym (ap (λ v. v.items) w.found-is))
            (found_other rest content nodes place n within at loop.found.items (inv.found content found) (sym c.is_source.ensures ∙ w.if-is_source.false))
      ];
      fresh = λ all. elim c.if-is_source.branch [
        | then-is_source w ↦
            let is = sym c.is_source.ensures ∙ w.if-is_source.true in
            let own = (left_source nodes place n within at sources counted loop.rest.items w.next_source.new.rest.items w.next_source.result inv.left is w.next_source.ensures).0 in
            let none = subst (λ s. g.S.Source.faults s ≡ 0) (sym own) (all number w.next_source.result (number_within nodes place n within at sources counted is)) in
            subst (λ fs. All (IsUnread g.S.Source.faults) fs) (sym (ap (λ v. v.items) w.found-is ∙ w.push_reserved.ensures.items)) (all_more (IsUnread g.S.Source.faults) loop.found.items _ (inv.fresh all) none)
        | else-is_source w ↦ subst (λ fs. All (IsUnread g.S.Source.faults) fs) (sym (ap (λ v. v.items) w.found-is)) (inv.fresh all)
      ];
      count = elim c.if-is_source.branch [
        | then-is_source w ↦
            ap (λ v. length v.items) w.found-is
            ∙ (ap length w.push_reserved.ensures.items
            ∙ (length_more loop.found.items _ ∙ omega (arith, inv.count, count_more nodes place n true within at (sym c.is_source.ensures ∙ w.if-is_source.true))))
        | else-is_source w ↦ ap (λ v. length v.items) w.found-is ∙ omega (arith, inv.count, count_more nodes place n false within at (sym c.is_source.ensures ∙ w.if-is_source.false))
      ];
      room = elim c.if-is_source.branch [
        | then-is_source w ↦ ap (λ v. vec_capacity v) w.found-is ∙ (w.push_reserved.ensures.capacity ∙ inv.room)
        | else-is_source w ↦ ap (λ v. vec_capacity v) w.found-is ∙ inv.room
      ];
    }

pub returns-clause-found : goal.returns-clause-found
returns-clause-found g c = λ content found. found_all g.S.Source.rest content c.args.nodes.now c.loop-node.node-index c.loop-node.found.items (search rules) (c.loop-node.invariant.found content found)
