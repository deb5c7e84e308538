use Rattle.std.proofs.Common.{arith}
use Rattle.std.proofs.lemmas.Bool.{eqb-true}
use Rattle.cedr_text.proofs.Cuts.{rest_from}
use Rattle.cedr_text.proofs.LineLemmas.{found_end, none_found}
use Rattle.cedr_text.proofs.lines.find_end.Goals as goal

pub returns-in_err-place : goal.returns-in_err-place
returns-in_err-place c =
    let window = c.args.window.now in
    rw c.from_residual.ensures (none_found window _ c.args.searched (rest_from window c.args.searched) c.requires.none (λ k low. c.in_err-place.ensures k (omega arith) low))

pub returns : goal.returns
returns c =
    let window = c.args.window.now in
    let found = c.in_ok-place.ensures in
    found_end window _ c.args.searched c.in_ok-place.place (rest_from window c.args.searched) c.requires.within c.requires.none
    found.0.high (λ k low. found.0.before k (omega arith) low) (eqb-true _ _ found.1)
