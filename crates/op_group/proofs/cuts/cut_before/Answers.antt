use Rattle.op_group.proofs.Shown.{last_cut}
use Rattle.op_group.proofs.cuts.cut_before.Goals as goal

pub returns-in-Some : goal.returns-in-Some
returns-in-Some c =
    let range = c.range.ensures.in_range tt in
    let last = range.3 _ _ c.in-Some.ensures.steps in
    let greatest = range.4 _ _ c.in-Some.ensures.steps in
    last_cut c.args.cuts.now c.in-Some.at.now c.args.to c.in-Some.field-0-1.now last.0.1 last.1 (λ u before there. greatest u (tt, before) there)
