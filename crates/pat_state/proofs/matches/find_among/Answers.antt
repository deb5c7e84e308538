use Rattle.std.proofs.Common.{◌≡◌, ◌+◌, ◌-◌, ◌<◌, ◌∙◌, ℕ, refl, ap, sym, drop, arith, length}
use Rattle.std.specs.Prelude.{slice_index}
use Rattle.std.proofs.lemmas.Result.{IfOk-weaker}
use Rattle.std.specs.List.{filter}
use Rattle.cedr_expr.specs.Tests.{passes, may_pass}
use Rattle.pat_state.specs.Steps.{grown_all, grown_passing, is_match, matches, near, picked}
use Rattle.pat_state.proofs.FindLemmas.{grown_step, alone_is, found_is, length-near, length-picked, near_seen}
use Rattle.pat_state.specs.Groups.{all_seen}
use Rattle.pat_state.proofs.matches.find_among.Goals as goal

pub loop-place-preserved : goal.loop-place-preserved
loop-place-preserved c =
    let tables = picked c.args.order.now (all_seen c.args.tag c.args.kept.now) in
    let more = c.loop-place-test.true in
    let inside : c.loop-place.place < length c.args.order.now = omega arith in
    let within : c.loop-place.place < length (near c.args.row.now c.args.changed (picked c.args.order.now (all_seen c.args.tag c.args.kept.now))) = omega (arith, inside, length-near c.args.row.now c.args.changed tables, length-picked c.args.order.now (all_seen c.args.tag c.args.kept.now)) in
    let port = slice_index c.args.order.now c.loop-place.place in
    let bag = near_seen c.args.tag c.args.order.now c.args.kept.now c.args.row.now c.args.changed c.loop-place.place port c.index-kept-order-in-loop-place.result inside refl (c.requires.order c.loop-place.place inside) c.index-kept-order-in-loop-place.is in
    let all = matches c.args.scope c.args.tests.now c.args.row.now c.args.changed tables in
    record {
      so_far = grown_step c.args.tests.now c.loop-place.rows.items c.in_ok-rows-2.rows.items c.loop-place.place (near c.args.row.now c.args.changed tables) all within
          (c.in_ok-rows-2.ensures ∙ (λ i. grown_passing (may_pass c.args.tests.now) (c.as_slice.ensures.value i) (bag i)))
          c.loop-place.invariant.so_far;
      within = omega (arith, more);
    }

pub returns-then-order-eq1 : goal.returns-then-order-eq1
returns-then-order-eq1 c = IfOk-weaker c.find_alone.result _ _
    (λ rows is. alone_is c.args.scope c.args.tests.now c.args.row.now c.args.changed c.args.order.now (all_seen c.args.tag c.args.kept.now) rows.items c.if-order-eq1.true c.requires.changed is)
    c.find_alone.ensures

pub returns : goal.returns
returns c =
    let tables = picked c.args.order.now (all_seen c.args.tag c.args.kept.now) in
    let some = c.requires.changed in
    let below = c.loop-place.invariant.within in
    let end = c.loop-place-test.false in
    let last : c.loop-place.place ≡ length c.args.order.now - 1 = omega arith in
    let size : length (picked c.args.order.now (all_seen c.args.tag c.args.kept.now)) ≡ (length c.args.order.now - 1) + 1 = omega (arith, some, length-picked c.args.order.now (all_seen c.args.tag c.args.kept.now)) in
    let inside : length c.args.order.now - 1 < length c.args.order.now = omega arith in
    let port = slice_index c.args.order.now (length c.args.order.now - 1) in
    let bag = near_seen c.args.tag c.args.order.now c.args.kept.now c.args.row.now c.args.changed (length c.args.order.now - 1) port c.index-kept-order-2.result inside refl (c.requires.order (length c.args.order.now - 1) inside) c.index-kept-order-2.is in
    IfOk-weaker c.grown-2.result _ _
    (λ rows is. found_is c.args.scope c.args.tests.now c.args.row.now c.args.changed (length c.args.order.now - 1) tables c.loop-place.rows.items rows.items size
    (ap (λ (n : ℕ). filter (is_match c.args.tests.now) (grown_all c.loop-place.rows.items (drop n (near c.args.row.now c.args.changed tables)))) (sym last) ∙ c.loop-place.invariant.so_far)
    (is ∙ (λ i. grown_passing (passes c.args.tests.now) (c.as_slice-2.ensures.value i) (bag i))))
    c.grown-2.ensures
