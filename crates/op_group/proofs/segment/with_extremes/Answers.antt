use Rattle.std.proofs.Common.{◌++◌, ◌∙◌, [], take, ap, sym}
use Rattle.std.specs.List.{filter_map, cons_option}
use Rattle.std.proofs.lemmas.List.{append_assoc}
use Rattle.op_group.proofs.ExtremeLists.{next_there}
use Rattle.op_group.proofs.segment.with_extremes.Goals as goal

pub loop-extreme-preserved : goal.loop-extreme-preserved
loop-extreme-preserved c =
    let before = filter_map (λ x. x) (take c.loop-extreme.extreme-index c.args.extremes.now) in
    let next = next_there c.args.extremes.now c.loop-extreme.extreme-index c.extreme-item.result c.loop-extreme-test.true c.extreme-item.is in
    c.in_ok-written.ensures
    ∙ (ap (λ fs. fs ++ cons_option c.extreme-item.result []) c.loop-extreme.invariant
    ∙ (append_assoc c.args.fields before (cons_option c.extreme-item.result []) ∙ ap (λ fs. c.args.fields ++ fs) (sym next)))
