use Rattle.std.proofs.Common.{ap, ◌∙◌}
use Rattle.cedr_edge.specs.Ends.{OutEnd}
use Rattle.worker_outlets.specs.Outgoing.{Outgoing}
use Rattle.worker_outlets.specs.Outlets.{total_of}
use Rattle.worker_outlets.proofs.Pending.{pending_legal, pending_put, pending_total, drop_first}
use Rattle.worker_outlets.proofs.outlet.Outlet.put_one.Goals as goal

pub put-requires-2 : goal.put-requires-2
put-requires-2 g c = pending_legal _ _ _ _ _ _ c.if-self-eq0.false c.in-Some-pop_front.ensures.items c.self.invariant.0

pub invariant_of-self-in-Ok-put : goal.invariant_of-self-in-Ok-put
invariant_of-self-in-Ok-put g c =
    pending_put _ _ _ _ _ _ c.if-self-eq0.false c.in-Some-pop_front.ensures.items c.put-2.new.self (ap (λ (e : OutEnd). e.sent) c.in-Ok-put.ensures.put) c.self.invariant.0 c.self.invariant.1

pub returns-in-Ok-put-clause-kept : goal.returns-in-Ok-put-clause-kept
returns-in-Ok-put-clause-kept g c = record {
  edge = ap (λ (e : OutEnd). e.edge) c.in-Ok-put.ensures.put ∙ ap (λ (o : Outgoing). o.edge) c.self.view_is;
  total = pending_total _ _ _ _ _ _ c.if-self-eq0.false c.in-Some-pop_front.ensures.items c.put-2.new.self (ap (λ (e : OutEnd). e.sent) c.in-Ok-put.ensures.put) ∙ (ap (λ (o : Outgoing). total_of o) c.self.view_is);
  staged = drop_first _ _ _ _ c.if-self-eq0.false c.in-Some-pop_front.ensures.items ∙ ap (λ (o : Outgoing). o.staged) c.self.view_is;
}
