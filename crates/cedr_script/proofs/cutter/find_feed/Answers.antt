use Rattle.std.proofs.Common.{refl, subst, arith}
use Rattle.std.proofs.lemmas.Bool.{eqb-true}
use Rattle.cedr_text.specs.Lines.{IsLineEnd}
use Rattle.cedr_text.proofs.LineLemmas.{found_end, none_found}
use Rattle.cedr_script.proofs.cutter.find_feed.Goals as goal

pub returns-in_err-place : goal.returns-in_err-place
returns-in_err-place c =
    let bytes = c.args.bytes.now in
    rw c.from_residual.ensures (none_found bytes bytes 0 refl refl (λ k low. c.in_err-place.ensures k (omega arith) low))

pub returns : goal.returns
returns c =
    let bytes = c.args.bytes.now in
    let found = c.in_ok-place.ensures in
    let place = c.in_ok-place.place in
    subst (IsLineEnd bytes) (omega arith) (found_end bytes bytes 0 place refl (omega arith) refl found.0.high (λ k low. found.0.before k (omega arith) low) (eqb-true _ _ found.1))
