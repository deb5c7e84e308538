use Rattle.std.proofs.Common.{◌<◌, ◌∷◌, ℕ, [], List, length, get_or, sym, subst, ap, arith}
use Rattle.std.proofs.lemmas.List.{length-append}
use Rattle.cedr_guard.specs.Standing.{Guards}
use Rattle.cedr_guard.specs.declared.guard.Guard.{Guard}
use Rattle.plan_live.proofs.GuardLemmas.{guards_push}
use Rattle.plan_live.proofs.guards.guards_of.Goals as goal

pub loop-preserved : goal.loop-preserved
loop-preserved c =
    let guards = c.loop.guards.items in
    let pushed = c.in_ok-push.ensures.items in (
      omega (arith, ap (λ (gs : List Guard). length gs) pushed, length-append guards (c.new.result ∷ []), c.loop.invariant.0),
      subst (λ (gs : List Guard). (k : ℕ) (d : Guard) → k < length gs → Guards (get_or gs k d) []) (sym pushed) (guards_push guards c.new.result c.loop.invariant.1 c.new.ensures),
    )
