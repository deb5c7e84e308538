use Rattle.std.proofs.Common.{◌≡◌, ◌+◌, ◌≤◌, false, [], ◌∷◌, arith, rules, refl, sym, subst}
use Rattle.cedr_base.specs.declared.change.Message.TheVariants as message
use Rattle.cedr_base.specs.Messages.{mark_of, IsLegal}
use Rattle.cedr_edge.specs.Ends.{OutEnd}
use Rattle.node_laws.specs.Lawful.{is_over}
use Rattle.cedr_edge.proofs.Lists.{may_mark, marked, not_over_append}
use Rattle.worker_tests.proofs.edges.send_marks.Goals as goal

pub put-requires : goal.put-requires
put-requires g c = let i = c.loop.invariant in may_mark _ _ i.1 i.2 (omega (arith, i.3)) (search rules)

pub loop-preserved : goal.loop-preserved
loop-preserved g c =
    let i = c.loop.invariant in
    let sent = c.loop.out.sent in
    let next = c.loop.next + 1 in
    subst (λ (e : OutEnd). (e.edge ≡ c.args.out.edge) × (is_over e.sent ≡ false) × IsLegal e.sent × (mark_of e.sent ≡ next) × (next ≤ c.args.count)) (sym c.in-Ok.ensures.put)
    (i.0, not_over_append sent (message.Mark next ∷ []) i.1 refl, may_mark sent next i.1 i.2 (omega (arith, i.3)) (search rules), marked sent next (omega (arith, i.3)), search rules)
