use Rattle.std.proofs.Common.{refl, sym, ◌∙◌, subst}
use Rattle.cedr_net.proofs.EdgeLemmas.{any_default}
use Rattle.plan_follow.proofs.guards.sift_at.Goals as goal
use Rattle.source_memory.specs.Opened.{Recalls}
use Rattle.source_memory.specs.declared.guard.OpenGuard.{OpenGuard}

pub returns : goal.returns
returns c =
    let guards = c.args.guards.now.items in
    let place = c.args.place in
    let guard = c.index_mut.result.now in
    record {
      now = c.sift.new.guard;
      set_to = refl;
      sifts = λ d kept stands. c.sift.ensures kept (subst (λ (g : OpenGuard). Recalls g kept) (any_default guards place d guard c.requires ∙ sym c.index_mut.ensures.value) stands);
    }
