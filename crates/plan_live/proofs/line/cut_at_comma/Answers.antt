use Rattle.std.proofs.Common.{◌+◌, List, ℕ, Some, drop, take, add-one, ap, sym, ◌∙◌, arith}
use Rattle.cedr_text.proofs.Cuts.{rest_from}
use Rattle.plan_live.proofs.LineLemmas.{cut_here, no_cut}
use Rattle.plan_live.proofs.line.cut_at_comma.Goals as goal

pub returns-in-Some : goal.returns-in-Some
returns-in-Some c =
    let line = c.args.line.now in
    let at = c.in-Some.at in
    let found = c.in-Some.ensures in
    cut_here line at found.0.high (λ k low. found.0.before k (omega arith) low) found.1
    ∙ ap (λ (rest : List ℕ). Some (take at line, rest)) (ap (λ (n : ℕ). drop n line) (sym (add-one at)) ∙ sym (rest_from line (at + 1)))

pub returns-in-None : goal.returns-in-None
returns-in-None c = no_cut c.args.line.now (λ k low. c.in-None.ensures k (omega arith) low)
