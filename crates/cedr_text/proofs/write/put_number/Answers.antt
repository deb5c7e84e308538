use Rattle.std.proofs.Common.{◌≡◌, ap, ◌∙◌, to_z-of_z}
use Rattle.std.specs.Fmt.{signed_decimal}
use Rattle.cedr_text.specs.Texts.{text_text}
use Rattle.cedr_text.proofs.Quotes.{signed_is_text}
use Rattle.cedr_text.proofs.write.put_number.Goals as goal

pub returns-clause-text : goal.returns-clause-text
returns-clause-text c =
    let digits : c.as_bytes.result.now ≡ signed_decimal c.args.number = c.as_bytes.ensures.value ∙ c.format.ensures.text ∙ ap signed_decimal (to_z-of_z c.ranges.number) in
    let plain : text_text c.as_bytes.result.now ≡ signed_decimal c.args.number = ap text_text digits ∙ signed_is_text c.args.number c.ranges.number in
    rw plain at c.put_text.ensures.text
