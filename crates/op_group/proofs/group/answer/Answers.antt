use Rattle.std.proofs.Common.{◌≡◌, ◌<◌, ◌≤◌, ◌∙◌, ℕ, ap, sym, subst, cond, None, [], arith}
use Rattle.std.proofs.lemmas.Result.{on_ok_weaker}
use Rattle.cedr_base.specs.declared.row.Row.{Row}
use Rattle.cedr_expr.specs.Columns.{kept_columns}
use Rattle.op_group.specs.Groups.{grouping_with, rows_of, same_payload}
use Rattle.op_group.specs.PayloadLaws.{payload_itself}
use Rattle.op_group.specs.State.{cuts_of}
use Rattle.op_group.specs.LawWords.{last_time}
use Rattle.op_group.proofs.Answered.{keeps_after, own_answers, follows_change, all_had, due_had, seen_before, last_row}
use Rattle.op_group.specs.Bags.{BagKeeps, bag_at, lives_of}
use Rattle.change_laws.proofs.Moves.{may_is}
use Rattle.op_group.proofs.GroupRepairs.{group_moves}
use Rattle.op_group.proofs.FieldLemmas.{own_test, fields_after}
use Rattle.op_group.proofs.Standing.{on_ok_both}
use Rattle.op_group.proofs.group.answer.Goals as goal

pub put_group-requires : goal.put_group-requires
put_group-requires c =
    ap (cuts_of c.take_group-cuts.new.groups.entries) c.in_ok-follow.ensures.key
    ∙ (c.take_group-cuts.ensures.others c.in_ok-key.key ∙ ap (λ b. cond b [] (cuts_of c.args.groups.now.entries c.in_ok-key.key)) (payload_itself c.in_ok-key.key))

pub follow-requires : goal.follow-requires
follow-requires c =
    let seen = seen_before c.args.change.now c.requires in
    let last : c.row-2.result.now.end ≡ last_time c.args.change.now = ap (λ (r : Row). r.end) c.row-2.ensures ∙ last_row c.args.change.now in
    omega (arith, c.sync-at.ensures)

pub returns-clause-keeps : goal.returns-clause-keeps
returns-clause-keeps c = on_ok_weaker c.put_group.result
    (λ put old new mark keeps fields may moved late.
    let own = c.in_ok-key.ensures ∙ ap (λ (r : Row). kept_columns c.args.keys.now r.payload) c.row.ensures in
    let test = own_test (grouping_with c.args.keys.now c.args.count c.args.asked.now) c.args.change.now c.in_ok-key.key own in
    let told = c.in_ok-living.ensures.keeps (rows_of (grouping_with c.args.keys.now c.args.count c.args.asked.now) c.in_ok-key.key old) (rows_of (grouping_with c.args.keys.now c.args.count c.args.asked.now) c.in_ok-key.key new) (fields.each c.in_ok-key.key) (group_moves (grouping_with c.args.keys.now c.args.count c.args.asked.now) c.in_ok-key.key c.args.change.now old new test moved) in
    let within = fields.within in
    let from = told.1 in
    let early = seen_before c.args.change.now c.requires in
    let end : c.row-2.result.now.end ≡ last_time c.args.change.now = ap (λ (r : Row). r.end) c.row-2.ensures ∙ last_row c.args.change.now in
    let ascend : c.sync-at.result < c.row-2.result.now.end = omega (arith, c.sync-at.ensures) in
    let seen : mark ≤ c.sync-at.result = subst (λ (t : ℕ). mark ≤ t) (sym c.sync-at.ensures) late in
    let had = all_had (grouping_with c.args.keys.now c.args.count c.args.asked.now) c.args.groups.now.entries c.args.points.now.all.keys c.args.points.now.due.keys old mark c.in_ok-key.key c.take_group-cuts.result.entries keeps c.take_group-cuts.ensures.cuts c.sync-at.result c.row-2.result.now.end c.find_touched-was.result c.find_touched-was.ensures.first c.find_touched-was.ensures.last in
    let due = due_had (grouping_with c.args.keys.now c.args.count c.args.asked.now) c.args.groups.now.entries c.args.points.now.all.keys c.args.points.now.due.keys old mark c.in_ok-key.key c.take_group-cuts.result.entries keeps c.take_group-cuts.ensures.cuts c.sync-at.result c.row-2.result.now.end c.find_touched-was.result seen ascend c.find_touched-was.ensures.first c.find_touched-was.ensures.last in
    keeps_after c.in_ok-key.key c.args.groups.now.entries c.take_group-cuts.new.groups.entries c.put_group.new.groups.entries c.take_group-cuts.result.entries c.answer_in.new.cuts.entries
    c.take_group-cuts.ensures.cuts c.take_group-cuts.ensures.others
    (λ other. put.0 other ∙ ap (λ k. cond (same_payload k other) c.answer_in.new.cuts.entries (cuts_of c.take_group-cuts.new.groups.entries other)) c.in_ok-follow.ensures.key) (grouping_with c.args.keys.now c.args.count c.args.asked.now) c.args.change.now old new mark c.args.points.now.all.keys c.follow.new.points.all.keys c.args.points.now.due.keys c.follow.new.points.due.keys
    (c.in_ok-key.ensures ∙ ap (λ (r : Row). kept_columns c.args.keys.now r.payload) c.row.ensures) may moved late c.in_ok-living.living told.0 (omega arith) c.in_ok-answer_in.ensures.shown
    (follows_change c.args.points.now.all.keys c.follow.new.points.all.keys c.in_ok-key.key c.answer_in.new.cuts.entries c.args.change.now c.sync-at.result c.row-2.result.now c.sync-at.ensures c.row-2.ensures (c.in_ok-follow.ensures.all had))
    (follows_change c.args.points.now.due.keys c.follow.new.points.due.keys c.in_ok-key.key c.answer_in.new.cuts.entries c.args.change.now c.sync-at.result c.row-2.result.now c.sync-at.ensures c.row-2.ensures (c.in_ok-follow.ensures.due due))
    keeps (c.put_group.ensures.sorted c.take_group-cuts.ensures.sorted) (λ some. put.1 (c.take_group-cuts.ensures.some_cuts some)) c.in_ok-answer_in.ensures.ordered)
    (on_ok_both _ _ c.put_group.result c.put_group.ensures.cuts c.put_group.ensures.some_cuts)

pub returns-clause-answers : goal.returns-clause-answers
returns-clause-answers c = on_ok_weaker c.put_group.result
    (λ put old new mark keeps fields may moved late are.
    let own = c.in_ok-key.ensures ∙ ap (λ (r : Row). kept_columns c.args.keys.now r.payload) c.row.ensures in
    let test = own_test (grouping_with c.args.keys.now c.args.count c.args.asked.now) c.args.change.now c.in_ok-key.key own in
    let told = c.in_ok-living.ensures.keeps (rows_of (grouping_with c.args.keys.now c.args.count c.args.asked.now) c.in_ok-key.key old) (rows_of (grouping_with c.args.keys.now c.args.count c.args.asked.now) c.in_ok-key.key new) (fields.each c.in_ok-key.key) (group_moves (grouping_with c.args.keys.now c.args.count c.args.asked.now) c.in_ok-key.key c.args.change.now old new test moved) in
    let within = fields.within in
    let from = told.1 in
    own_answers c.in_ok-key.key c.args.groups.now.entries c.take_group-cuts.result.entries c.take_group-cuts.ensures.cuts (grouping_with c.args.keys.now c.args.count c.args.asked.now) c.args.change.now old new mark c.args.points.now.all.keys c.args.points.now.due.keys c.args.out.now.items c.answer_in.new.out.items
    (c.in_ok-key.ensures ∙ ap (λ (r : Row). kept_columns c.args.keys.now r.payload) c.row.ensures) c.in_ok-living.living told.0 (omega arith) c.in_ok-answer_in.ensures.answers keeps may moved late are)
    c.put_group.ensures.cuts

pub returns-clause-kept : goal.returns-clause-kept
returns-clause-kept c = c.answer_in.ensures.kept

pub put_bag-requires : goal.put_bag-requires
put_bag-requires c =
    ap (bag_at c.take_changed.new.bags.all.entries) c.in_ok-follow.ensures.key
    ∙ (c.take_changed.ensures.others c.in_ok-key.key ∙ ap (λ b. cond b None (bag_at c.args.bags.now.all.entries c.in_ok-key.key)) (payload_itself c.in_ok-key.key))

pub returns-clause-fields : goal.returns-clause-fields
returns-clause-fields c = on_ok_weaker c.put_group.result
    (λ both old new mark keeps fields may moved late.
    let own = c.in_ok-key.ensures ∙ ap (λ (r : Row). kept_columns c.args.keys.now r.payload) c.row.ensures in
    let test = own_test (grouping_with c.args.keys.now c.args.count c.args.asked.now) c.args.change.now c.in_ok-key.key own in
    let told = c.in_ok-living.ensures.keeps (rows_of (grouping_with c.args.keys.now c.args.count c.args.asked.now) c.in_ok-key.key old) (rows_of (grouping_with c.args.keys.now c.args.count c.args.asked.now) c.in_ok-key.key new) (fields.each c.in_ok-key.key) (group_moves (grouping_with c.args.keys.now c.args.count c.args.asked.now) c.in_ok-key.key c.args.change.now old new test moved) in
    let within = fields.within in
    let from = told.1 in
    let early = seen_before c.args.change.now c.requires in
    let end : c.row-2.result.now.end ≡ last_time c.args.change.now = ap (λ (r : Row). r.end) c.row-2.ensures ∙ last_row c.args.change.now in
    let ascend : c.sync-at.result < c.row-2.result.now.end = omega (arith, c.sync-at.ensures) in
    let seen : mark ≤ c.sync-at.result = subst (λ (t : ℕ). mark ≤ t) (sym c.sync-at.ensures) late in
    let had = all_had (grouping_with c.args.keys.now c.args.count c.args.asked.now) c.args.groups.now.entries c.args.points.now.all.keys c.args.points.now.due.keys old mark c.in_ok-key.key c.take_group-cuts.result.entries keeps c.take_group-cuts.ensures.cuts c.sync-at.result c.row-2.result.now.end c.find_touched-was.result c.find_touched-was.ensures.first c.find_touched-was.ensures.last in
    let due = due_had (grouping_with c.args.keys.now c.args.count c.args.asked.now) c.args.groups.now.entries c.args.points.now.all.keys c.args.points.now.due.keys old mark c.in_ok-key.key c.take_group-cuts.result.entries keeps c.take_group-cuts.ensures.cuts c.sync-at.result c.row-2.result.now.end c.find_touched-was.result seen ascend c.find_touched-was.ensures.first c.find_touched-was.ensures.last in
    let point = c.in_ok-follow.ensures.key in
    let passed = c.take_changed.ensures.passed in
    fields_after (grouping_with c.args.keys.now c.args.count c.args.asked.now) c.in_ok-key.key c.args.bags.now c.take_changed.new.bags c.put_bag.new.bags c.args.change.now old new mark c.in_ok-living.living
    c.take_changed.ensures.passed c.put_bag.ensures.passed c.take_changed.ensures.others
    (λ other apart. c.in_ok-put_bag.ensures.others other (ap (λ k. same_payload k other) point ∙ apart)) own moved
    (subst (λ k. BagKeeps (bag_at c.put_bag.new.bags.all.entries k) c.take_changed.new.bags.passed (lives_of c.args.asked.now (rows_of (grouping_with c.args.keys.now c.args.count c.args.asked.now) c.in_ok-key.key new))) point
    (c.in_ok-put_bag.ensures.keeps (lives_of c.args.asked.now (rows_of (grouping_with c.args.keys.now c.args.count c.args.asked.now) c.in_ok-key.key new)) told.0 (omega (arith, passed))))
    (λ bag there. c.in_ok-put_bag.ensures.own bag (ap (bag_at c.put_bag.new.bags.all.entries) point ∙ there)) c.in_ok-living.ensures.from_there
    (λ bag there. c.in_ok-put_bag.ensures.live bag (ap (bag_at c.put_bag.new.bags.all.entries) point ∙ there))
    c.put_group.new.groups.entries c.follow.new.points.all.keys c.args.points.now.due.keys c.follow.new.points.due.keys c.answer_in.new.cuts.entries (may_is old [] c.args.change.now may) late (both old new mark keeps fields may moved late)
    (follows_change c.args.points.now.due.keys c.follow.new.points.due.keys c.in_ok-key.key c.answer_in.new.cuts.entries c.args.change.now c.sync-at.result c.row-2.result.now c.sync-at.ensures c.row-2.ensures (c.in_ok-follow.ensures.due due))
    (c.put_bag.ensures.sorted c.take_changed.ensures.sorted) fields)
    (returns-clause-keeps c)
