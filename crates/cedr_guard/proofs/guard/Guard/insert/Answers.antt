use Rattle.std.proofs.Common.{List, ◌++◌, ◌∷◌, [], refl, ap, ◌∙◌}
use Rattle.cedr_base.specs.declared.field.Field.{Field}
use Rattle.cedr_guard.proofs.GuardLemmas.{guards-insert}
use Rattle.cedr_guard.proofs.guard.Guard.insert.Goals as goal

pub returns-clause-stands : goal.returns-clause-stands
returns-clause-stands c = λ before guards.
    guards-insert c.args.self.now _ before c.args.id c.args.row.now guards c.requires.event
    (c.in_default.ensures.judged before c.args.row.now guards.judge refl)
    (c.in_default.ensures.stands before c.args.row.now guards.judge refl)
    (c.in_ok-push.ensures.items ∙ ap (λ (p : List Field). c.args.self.now.payloads.items ++ p ∷ []) c.in_ok-kept.ensures)
