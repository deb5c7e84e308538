use Rattle.std.proofs.Common.{◌*◌, inl, inr, ℕ, sym, subst, rules}
use Rattle.cedr_save.proofs.NumberFronts.{IsRaised, raise, raised_highest}
use Rattle.cedr_save.proofs.front.highest.Goals as goal

pub loop-low-preserved : goal.loop-low-preserved
loop-low-preserved c =
    subst (λ (h : ℕ). IsRaised c.args.number c.args.last (c.loop-low.low * 10) h) (sym c.one_more-high.ensures)
    (raise c.args.number c.args.last c.loop-low.low c.loop-low.high c.loop-low.invariant (search rules) (search rules))

pub returns-else-low-last : goal.returns-else-low-last
returns-else-low-last c = raised_highest c.args.number c.args.last c.loop-low.low c.loop-low.high c.loop-low.invariant (inr (search rules))

pub returns-after-loop-low : goal.returns-after-loop-low
returns-after-loop-low c = raised_highest c.args.number c.args.last c.loop-low.low c.loop-low.high c.loop-low.invariant (inl (λ some. search rules))
