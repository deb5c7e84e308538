use Rattle.std.proofs.Common.{inr}
use Rattle.op_group.proofs.Shown.{last_cut_up_to}
use Rattle.op_group.proofs.cuts.first_touched.Goals as goal

pub returns-then-last-at-clause-touched : goal.returns-then-last-at-clause-touched
returns-then-last-at-clause-touched c =
    let range = c.range.ensures.in_range tt in
    let last = range.3 _ _ c.in-Some.ensures.steps in
    let greatest = range.4 _ _ c.in-Some.ensures.steps in
    inr (last_cut_up_to c.args.cuts.now c.in-Some.last.now c.args.at c.in-Some.segment.now c.if-last-at.true last.1 (λ u under there. greatest u (tt, under) there))
