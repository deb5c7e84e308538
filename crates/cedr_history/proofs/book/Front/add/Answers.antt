use Rattle.std.proofs.Common.{sym, ◌∙◌, ap}
use Rattle.cedr_history.specs.Sights.{Sight}
use Rattle.cedr_history.proofs.Adding.{adds_moves}
use Rattle.cedr_history.proofs.book.Front.add.Goals as goal

pub compare_exchange-found-requires : goal.compare_exchange-found-requires
compare_exchange-found-requires c =
    let h = c.requires.head in
    let b = ap (λ (s : Sight). s.book) c.self.view_is in
    let offer = c.plain-offer.ensures in
    let pen = c.no_pen-pen.ensures in (
      ap (λ w. w.tracked) h,
      b ∙ sym (ap (λ w. w.book) h),
      pen.0 ∙ (b ∙ sym (ap (λ w. w.book) h)),
      offer.0,
      rw (ap (λ w. w.key) h, pen.1, offer.1, offer.3) (adds_moves c.self.inside.seen.log c.args.step.now c.self.inside.count (sym c.self.invariant)),
    )
