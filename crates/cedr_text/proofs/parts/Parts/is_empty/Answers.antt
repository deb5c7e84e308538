use Rattle.std.proofs.Common.{◌==◌, sym, ◌∙◌, ap}
use Rattle.std.specs.Prelude.{option_map}
use Rattle.cedr_text.specs.Parts.{parts_left}
use Rattle.cedr_text.proofs.Cuts.{some_part}
use Rattle.cedr_text.proofs.parts.Parts.is_empty.Goals as goal

pub returns-in-Some : goal.returns-in-Some
returns-in-Some c = λ none.
    some_part (λ b. b == c.self.inside.separator) c.in-Some.field-0.now
    (ap (λ rest. parts_left c.self.inside.separator (option_map (λ text. text.now) rest)) (sym c.in-Some.is) ∙ (c.self.view_is ∙ none))
