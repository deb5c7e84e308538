use Rattle.std.proofs.Common.{◌∙◌, sym, ap, refl, length, arith}
use Rattle.std.proofs.Math.ListN.{length-set}
use Rattle.op_group.specs.Measures.{extremes_of}
use Rattle.op_group.proofs.SideLemmas.{renewed_more, side_missing, many_sides, turned_whole}
use Rattle.op_group.proofs.extremes.renew_all.Goals as goal
use Rattle.op_group.proofs.extremes.renew_all.Goals.{in-Some+in_ok-renew-in-Some, in-None}

pub loop-place-init : goal.loop-place-init
loop-place-init c = record { wide = refl; turned = λ old new passes tells is. is }

pub loop-place-preserved : goal.loop-place-preserved
loop-place-preserved c =
    let inv = c.loop-place.invariant in
    elim c.match-side_at.branch [
      | in-Some+in_ok-renew-in-Some w ↦ record {
        wide = ap (λ v. length v.items) w.extremes-is ∙ (length-set c.loop-place.extremes.items c.loop-place.place w.renew.new.extreme ∙ inv.wide);
        turned = λ old new passes tells is.
            ap (λ v. v.items) w.extremes-is
            ∙ renewed_more c.args.asked.now c.args.living.now c.args.at c.args.passing.now.payload old new c.loop-place.place w.in-Some.side (sym c.side_at.ensures ∙ w.in-Some.is) w.renew.new.extreme w.index_mut.result.now c.args.passing.now.up c.loop-place.extremes.items passes tells
            (inv.turned old new passes tells is) (omega (arith, inv.wide, c.loop-place-test.true, c.loop-place.auto.place-end, c.len-place-end.ensures)) (inv.wide ∙ ap (λ xs. length xs) is)
            w.index_mut.ensures.value w.in_ok-renew-in-Some.ensures.came w.in_ok-renew-in-Some.ensures.went;
      }
      | in-None w ↦ record {
        wide = ap (λ v. length v.items) w.extremes-is ∙ inv.wide;
        turned = λ old new passes tells is. absurd (side_missing c.args.asked.now old c.loop-place.place c.args.extremes.now.items is (omega (arith, c.loop-place-test.true, c.loop-place.auto.place-end, c.len-place-end.ensures)) (sym c.side_at.ensures ∙ w.in-None.is));
      }
    ]

pub returns : goal.returns
returns c = λ old new passes tells is.
    let inv = c.loop-place.invariant in
    inv.turned old new passes tells is ∙ turned_whole (extremes_of c.args.asked.now new) (extremes_of c.args.asked.now old) c.loop-place.place (many_sides c.args.asked.now new ∙ sym (many_sides c.args.asked.now old))
    (omega (arith, c.loop-place-test.false, c.loop-place.auto.place-end, c.len-place-end.ensures, ap (λ xs. length xs) is))
