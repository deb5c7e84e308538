use Rattle.std.proofs.Common.{◌∷◌, ◌==◌, ap, sym, ◌∙◌, drop, take, add-one, ◌+◌, arith}
use Rattle.cedr_text.specs.Parts.{parts_of}
use Rattle.cedr_text.proofs.Cuts.{first_part, only_part, rest_from}
use Rattle.cedr_text.proofs.parts.cut_part.Goals as goal

pub returns-in-Some : goal.returns-in-Some
returns-in-Some c =
    let bytes = c.args.bytes.now in
    let at = c.in-Some.at in
    let found = c.in-Some.ensures in
    first_part (λ b. b == c.args.separator) bytes at found.0.high (λ k low. found.0.before k (omega arith) low) found.1
    ∙ ap (λ rest. take at bytes ∷ parts_of c.args.separator rest) (ap (λ n. drop n bytes) (sym (add-one at)) ∙ sym (rest_from bytes (at + 1)))

pub returns-in-None : goal.returns-in-None
returns-in-None c = only_part (λ b. b == c.args.separator) c.args.bytes.now (λ k low. c.in-None.ensures k (omega arith) low)
