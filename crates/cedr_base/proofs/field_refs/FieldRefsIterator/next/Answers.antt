use Rattle.std.proofs.Common.{◌≡◌, ◌∙◌, ◌∷◌, sym, ap, length, rules}
use Rattle.cedr_base.proofs.StoredLemmas.{no_codes}
use Rattle.cedr_base.proofs.field_refs.FieldRefsIterator.next.Goals as goal

pub returns-then-is_empty-clause-steps : goal.returns-then-is_empty-clause-steps
returns-then-is_empty-clause-steps c =
    let none : length c.self.inside.rest.now ≡ 0 = (let test = c.if-is_empty.ensures in search rules) in
    let nothing = sym c.self.view_is ∙ no_codes c.self.inside.rest.now c.self.inside.held.0 c.self.inside.held.1 none in
    (nothing, nothing)

pub returns-clause-steps : goal.returns-clause-steps
returns-clause-steps c = sym c.self.view_is ∙ c.cut_first-first.ensures c.self.inside.held.0 c.self.inside.held.1 ∙ ap (λ fs. c.cut_first-first.result.0 ∷ fs) (sym c.self-2.view_is)

pub returns-clause-goes : goal.returns-clause-goes
returns-clause-goes c =
    let step = sym c.self.view_is ∙ c.cut_first-first.ensures c.self.inside.held.0 c.self.inside.held.1 in
    let shorter = ap length step in search rules
