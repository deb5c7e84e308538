use Rattle.std.proofs.Common.{◌<◌, ◌∷◌, ◌∙◌, sym, subst, ℕ}
use Rattle.std.proofs.lemmas.Bool.{ltb-true}
use Rattle.cedr_base.specs.declared.row.Row.{Row}
use Rattle.cedr_base.specs.Rows.{SameRows, count_of}
use Rattle.cedr_align.specs.Moving.{turned}
use Rattle.cedr_align.proofs.TurnLemmas.{both_removed, count_turned}
use Rattle.cedr_align.proofs.held.Held.take.Goals as goal

pub invariant_of-self-2 : goal.invariant_of-self-2
invariant_of-self-2 c =
    let row = c.args.row in
    let begins = c.self.inside.by_begin in
    let ends = c.self.inside.by_end in
    let there : 0 < count_of c.args.row c.self.inside.by_end = ltb-true 0 (count_of c.args.row c.self.inside.by_end) (sym c.take.ensures.was_there ∙ c.if-not-take.false) in
    let other_there : 0 < count_of c.turn-other.result begins =
    subst (λ (r : Row). 0 < count_of r begins) (sym c.turn-other.ensures) (subst (λ (n : ℕ). 0 < n) (sym (c.self.invariant.each (turned row) ∙ count_turned (turned row) ends)) there) in
    both_removed row 1 begins c.take-2.new.self ends c.take.new.self c.self.invariant
    (subst (λ (r : Row). SameRows (r ∷ c.take-2.new.self) begins) c.turn-other.ensures (c.take-2.ensures.taken other_there))
    (c.take.ensures.taken there)
