use Rattle.std.proofs.Common.{◌==◌, length, sym, arith}
use Rattle.std.proofs.lemmas.Bool.{le-leb}
use Rattle.cedr_base.specs.Bytes.{comma}
use Rattle.cedr_text.specs.Parts.{parts_of}
use Rattle.cedr_text.proofs.Cuts.{few_parts}
use Rattle.cedr_text.proofs.bare.are_few.Goals as goal

pub returns-in-Some : goal.returns-in-Some
returns-in-Some c =
    let text = c.in-Some.text.now in
    rw c.in-Some.is (sym (le-leb (length (parts_of comma text)) 16 (omega (arith, few_parts (λ b. b == comma) text))))
