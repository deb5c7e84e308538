use Rattle.std.proofs.Common.{refl, inr, ap}
use Rattle.std.specs.Ordering.{is_gt}
use Rattle.op_group.proofs.Shown.{last_cut_up_to, not_at}
use Rattle.op_group.proofs.Times.{eq_cmp}
use Rattle.op_group.proofs.cuts.carried.Goals as goal

pub returns-then-last-at-clause-carried : goal.returns-then-last-at-clause-carried
returns-then-last-at-clause-carried c =
    let range = c.range.ensures.in_range tt in
    let last = range.3 _ _ c.in-Some.ensures.steps in
    let greatest = range.4 _ _ c.in-Some.ensures.steps in
    let less = c.if-last-at.true in
    let cut = last_cut_up_to c.args.cuts.now c.in-Some.last.now c.args.at c.in-Some.before.now less last.1 (λ u under there. greatest u (tt, under) there) in (
      not_at c.args.cuts.now c.in-Some.last.now c.args.at less (λ there. greatest c.args.at (tt, ap is_gt (eq_cmp c.args.at c.args.at refl)) there),
      record {
        one_edge = refl;
        carried = inr (c.in-Some.last.now, c.in-Some.before.now, less, last.1, cut.none, refl, c.in_ok-totals-2.ensures);
      },
    )
