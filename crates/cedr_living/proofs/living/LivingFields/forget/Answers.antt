use Rattle.std.proofs.Common.{ℕ, List, sym, subst, arith}
use Rattle.cedr_living.specs.declared.ending.Ending.{Ending}
use Rattle.cedr_living.specs.Bags.{Holds, after}
use Rattle.cedr_living.proofs.LivingLemmas.{popped, forgotten}
use Rattle.cedr_living.proofs.living.LivingFields.forget.Goals as goal

pub loop-life-preserved : goal.loop-life-preserved
loop-life-preserved c = λ lives keeps.
    popped c.loop-life.self.index c.take.new.self c.loop-life.self.ends.entries c.pop_ended.new.ends.entries _ c.in-Some.life c.in-Some.count c.in-Some.ensures.ended c.in-Some.ensures.count c.in-Some.ensures.gone c.take.ensures
    (after c.args.self.now.from lives) (c.loop-life.invariant lives keeps)

pub returns-clause-keeps : goal.returns-clause-keeps
returns-clause-keeps c = λ lives keeps.
    subst (λ (ends : List (Ending × ℕ)). Holds c.loop-life.self.index ends (after c.max-from.result lives)) (sym c.in_default.ensures.unchanged)
    (forgotten c.loop-life.self.index c.loop-life.self.ends.entries c.args.self.now.from c.max-from.result (omega arith) c.in_default.ensures.none lives (c.loop-life.invariant lives keeps))
