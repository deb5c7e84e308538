use Rattle.std.proofs.Common.{rules, ◌≡◌, true, sym, subst}
use Rattle.cedr_edge.specs.Ends.{InEnd}
use Rattle.node_laws.specs.Lawful.{is_over}
use Rattle.cedr_edge.proofs.Moves.{joins, totals, closes}
use Rattle.cedr_edge.proofs.ends.EdgeIn.closed_with.Goals as goal

pub absorb-requires-clause-rule : goal.absorb-requires-clause-rule
absorb-requires-clause-rule c = joins _ _ _ _ c.self.invariant.1 c.requires.puts

pub learn_as-requires-clause-rule : goal.learn_as-requires-clause-rule
learn_as-requires-clause-rule c = totals _ _ (search rules) (search rules)

pub invariant_of-result : goal.invariant_of-result
invariant_of-result c =
    let over = subst (λ (e : InEnd). is_over e.taken ≡ true) (sym c.self.view_is) c.requires.over in
    closes _ _ _ _ _ c.absorb.ensures.rule c.learn_as.ensures.queue.1 over c.learn_as.ensures.rule c.self.invariant.2

pub returns-clause-same : goal.returns-clause-same
returns-clause-same c =
    let over = subst (λ (e : InEnd). is_over e.taken ≡ true) (sym c.self.view_is) c.requires.over in
    (closes _ _ _ _ _ c.absorb.ensures.rule c.learn_as.ensures.queue.1 over c.learn_as.ensures.rule c.self.invariant.2).0
