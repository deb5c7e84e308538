use Rattle.std.proofs.Common.{◌≡◌, ◌∷◌, sym, ap, ◌∙◌, rules}
use Rattle.cedr_text.specs.Parts.{parts_of}
use Rattle.cedr_text.proofs.BareLemmas.{retraction_long}
use Rattle.cedr_text.proofs.read.read_retraction.Goals as goal

pub returns-in_default-default-Some : goal.returns-in_default-default-Some
returns-in_default-default-Some c =
    let separator = c.args.separator in
    let fields = c.args.fields.now in
    let more = c.in_default-default-Some.field-0-2.now in
    let id = c.cut_number_at.ensures in
    let end = c.cut_time_at-end.ensures in
    let rest = c.in_default-Some.rest.now in
    let first : parts_of separator fields ≡ id.field ∷ parts_of separator rest = search rules in
    let second : parts_of separator rest ≡ end.field ∷ parts_of separator more = search rules in
    sym (retraction_long separator (parts_of separator fields) id.field end.field more (first ∙ ap (λ parts. id.field ∷ parts) second))
