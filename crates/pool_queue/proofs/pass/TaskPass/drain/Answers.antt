use Rattle.std.proofs.Common.{◌≡◌, ◌<◌, ◌++◌, ap, ◌∙◌, subst, arith, IsPermutation}
use Rattle.crossbeam_queue.specs.Passes.{view as known}
use Rattle.pool_queue.specs.declared.claim.Claim.{Claim}
use Rattle.pool_queue.specs.Once.{all_parts}
use Rattle.pool_queue.specs.Passes.{Holding}
use Rattle.pool_queue.proofs.Drained.{all_drained}
use Rattle.pool_queue.proofs.Moves.{drains, totals, entries_of}
use Rattle.pool_queue.proofs.pass.TaskPass.drain.Goals as goal

pub pop_as-requires-clause-rule : goal.pop_as-requires-clause-rule
pop_as-requires-clause-rule g c =
    let whole : (known c.loop.pass).parts ≡ all_parts = ap (λ (v : Claim _). v.parts) c.loop.invariant.seen ∙ (ap (λ (h : Holding _). h.parts) c.self.view_is ∙ c.requires) in
    let live : 0 < (known c.loop.pass).parts = omega (arith, whole) in
    (drains g.T.Placed.place _ _ live, totals g.T.Placed.place _ _ whole)

pub returns-in-None-pop_as : goal.returns-in-None-pop_as
returns-in-None-pop_as g c =
    subst (λ (h : Holding _). IsPermutation (entries_of g.T.Placed.place c.loop.row.items ++ h.held) h.opened) c.self.view_is
    (all_drained g.T.Placed.place (known c.self.inside.pass) (known c.loop.pass) c.loop.row.items c.loop.invariant.seen c.in-None-pop_as.ensures.rule.1)
