use Rattle.std.proofs.Common.{◌≡◌, ap, ◌∙◌, arith}
use Rattle.std.specs.Fmt.{decimal}
use Rattle.std.proofs.lemmas.Bool.{ne_eqb}
use Rattle.cedr_base.specs.declared.time.TheConstants.{FOREVER}
use Rattle.cedr_text.specs.Texts.{text_text}
use Rattle.cedr_text.proofs.Quotes.{decimal_is_text}
use Rattle.cedr_text.proofs.write.put_time.Goals as goal

pub returns-clause-text : goal.returns-clause-text
returns-clause-text c =
    let digits : c.as_bytes.result.now ≡ decimal c.args.time = c.as_bytes.ensures.value ∙ c.format.ensures.text in
    let plain : text_text c.as_bytes.result.now ≡ decimal c.args.time = ap text_text digits ∙ decimal_is_text c.args.time (omega (arith, c.ranges.time.fits)) in
    rw (ne_eqb c.args.time FOREVER c.if-time-eq-FOREVER.false) (rw plain at c.put-2.ensures.text)
