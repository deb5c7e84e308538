use Rattle.std.proofs.Common.{◌≡◌, ◌∷◌, ◌∙◌, ap, subst}
use Rattle.cedr_base.specs.declared.row.Row.{Row}
use Rattle.cedr_base.specs.Rows.{SameRows}
use Rattle.cedr_align.specs.Moving.{turned}
use Rattle.cedr_align.proofs.TurnLemmas.{both_inserted}
use Rattle.cedr_align.proofs.held.Held.insert.Goals as goal

pub invariant_of-self-in-Ok : goal.invariant_of-self-in-Ok
invariant_of-self-in-Ok c =
    let row = c.args.row in
    let begins = c.self.inside.by_begin in
    let ends = c.self.inside.by_end in
    let other_is : c.turn-other.result ≡ turned row = c.turn-other.ensures ∙ ap turned c.in_ok-copy.ensures in
    both_inserted row begins c.insert-2.new.self ends c.insert.new.self c.self.invariant
    (subst (λ (r : Row). SameRows c.insert-2.new.self (r ∷ begins)) other_is c.in-Ok.ensures.ok)
    c.in_ok-insert.ensures.ok
