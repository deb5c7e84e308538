use Rattle.std.proofs.Common.{sym, subst, Contains}
use Rattle.pool_queue.specs.Entries.{entry_of}
use Rattle.pool_queue.specs.Passes.{Holding}
use Rattle.pool_queue.proofs.Moves.{puts, learns_room}
use Rattle.pool_queue.proofs.pass.TaskPass.put.Goals as goal

pub push_as-requires-clause-rule : goal.push_as-requires-clause-rule
push_as-requires-clause-rule g c =
    let holds = subst (λ (h : Holding _). Contains h.held (entry_of g.T.Placed.place c.args.task)) (sym c.self.view_is) c.requires in
    (puts g.T.Placed.place _ _ _ _ c.self.invariant.1 holds, learns_room g.T.Placed.place _ _ (entry_of g.T.Placed.place c.args.task) c.self.invariant.1 holds)
