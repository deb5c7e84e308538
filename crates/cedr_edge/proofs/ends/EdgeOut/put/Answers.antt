use Rattle.std.proofs.Common.{[], ◌∷◌, ◌++◌, sym, ap, ◌∙◌, subst, length, rules}
use Rattle.cedr_base.specs.Messages.{IsLegal}
use Rattle.cedr_edge.specs.Ends.{OutEnd, as_u64}
use Rattle.node_laws.specs.Lawful.{is_over}
use Rattle.cedr_edge.specs.declared.line.Hand.{Hand}
use Rattle.cedr_edge.proofs.Lists.{over_last, told_more}
use Rattle.cedr_edge.proofs.Moves.{puts, learns_full}
use Rattle.cedr_edge.proofs.ends.EdgeOut.put.Goals as goal

pub push_as-requires-clause-rule : goal.push_as-requires-clause-rule
push_as-requires-clause-rule g c =
    let legal = subst (λ (e : OutEnd). IsLegal (e.sent ++ c.args.message ∷ [])) (sym c.self.view_is) c.requires in
    (puts _ _ _ _ c.self.invariant.1 legal, learns_full _ _ c.self.invariant.1)

pub invariant_of-self : goal.invariant_of-self
invariant_of-self g c =
    let legal = subst (λ (e : OutEnd). IsLegal (e.sent ++ c.args.message ∷ [])) (sym c.self.view_is) c.requires in
    (search rules, search rules, search rules, c.saturating_add-self-inside.ensures ∙ (told_more _ c.args.message _ c.self.invariant.3 ∙ ap (λ (h : Hand). as_u64 (length h.sent)) (sym c.in-Ok.ensures.rule)), c.is_last-last.ensures ∙ (sym (over_last _ c.args.message legal) ∙ ap (λ (h : Hand). is_over h.sent) (sym c.in-Ok.ensures.rule)))
