use Rattle.std.proofs.Common.{◌<◌, ◌∷◌, ℕ, [], List, length, get_or, sym, subst, ap, arith}
use Rattle.std.proofs.lemmas.List.{length-append}
use Rattle.plan_follow.proofs.RecallLemmas.{recall_push}
use Rattle.plan_follow.proofs.guards.open_guards.Goals as goal
use Rattle.source_memory.specs.Opened.{Recalls}
use Rattle.source_memory.specs.declared.guard.OpenGuard.{OpenGuard}

pub loop-preserved : goal.loop-preserved
loop-preserved c =
    let guards = c.loop.guards.items in
    let pushed = c.in_ok-push.ensures.items in (
      omega (arith, ap (λ (gs : List OpenGuard). length gs) pushed, length-append guards (c.new.result ∷ []), c.loop.invariant.0),
      subst (λ (gs : List OpenGuard). (k : ℕ) (d : OpenGuard) → k < length gs → Recalls (get_or gs k d) []) (sym pushed) (recall_push guards c.new.result c.loop.invariant.1 c.new.ensures),
    )
