use Rattle.std.proofs.Common.{sym, ap, ◌∙◌, length, rules}
use Rattle.node_laws.specs.Lawful.{is_over}
use Rattle.cedr_edge.specs.Ends.{as_u64}
use Rattle.cedr_edge.specs.declared.line.Hand.{Hand}
use Rattle.cedr_edge.proofs.Lists.{over_last, told_more}
use Rattle.cedr_edge.proofs.Moves.{takes, learns_empty}
use Rattle.cedr_edge.proofs.ends.EdgeIn.take.Goals as goal

pub pop_as-requires-clause-rule : goal.pop_as-requires-clause-rule
pop_as-requires-clause-rule g c = (takes _ _ c.self.invariant.1, learns_empty _ _)

pub invariant_of-self : goal.invariant_of-self
invariant_of-self g c =
    let rule = c.in-Some.ensures.rule in
    (search rules, search rules, c.saturating_add-self-inside.ensures ∙ (told_more _ c.in-Some.message _ c.self.invariant.2 ∙ ap (λ (h : Hand). as_u64 (length h.taken)) (sym rule.0)), search rules, c.is_last-self-inside.ensures ∙ (sym (over_last _ c.in-Some.message rule.1) ∙ ap (λ (h : Hand). is_over h.taken) (sym rule.0)))
