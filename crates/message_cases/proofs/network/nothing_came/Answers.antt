use Rattle.std.proofs.Common.{◌<◌, ◌∷◌, ℕ, [], List, length, get_or, sym, subst, ap, arith}
use Rattle.std.proofs.lemmas.List.{length-append}
use Rattle.test_feeding.specs.Came.{CameFor}
use Rattle.test_feeding.specs.declared.came.Came.{Came}
use Rattle.message_cases.proofs.NetLemmas.{came_push}
use Rattle.message_cases.proofs.network.nothing_came.Goals as goal

pub loop-preserved : goal.loop-preserved
loop-preserved c =
    let came = c.loop.came.items in
    let pushed = c.in_ok-push.ensures.items in (
      omega (arith, ap (λ (cs : List Came). length cs) pushed, length-append came (c.new.result ∷ []), c.loop.invariant.0),
      subst (λ (cs : List Came). (k : ℕ) (d : Came) → k < length cs → CameFor (get_or cs k d) []) (sym pushed) (came_push came c.new.result c.loop.invariant.1 c.new.ensures),
    )
