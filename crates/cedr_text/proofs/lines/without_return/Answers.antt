use Rattle.std.proofs.Common.{◌++◌, ◌∷◌, ◌==◌, [], sym, ap, ◌∙◌}
use Rattle.std.proofs.lemmas.Bool.{eqb-true, false_from_ne_true}
use Rattle.cedr_text.specs.Lines.{without_return}
use Rattle.cedr_text.proofs.LineLemmas.{return_dropped, other_kept}
use Rattle.cedr_text.proofs.lines.without_return.Goals as goal

pub returns-then-last-eq13 : goal.returns-then-last-eq13
returns-then-last-eq13 c =
    let front = c.in-Some.front.now in
    sym (ap without_return (c.in-Some.ensures.cases.0 ∙ ap (λ b. front ++ b ∷ []) c.if-last-eq13.true) ∙ return_dropped front)

pub returns-else-last-eq13 : goal.returns-else-last-eq13
returns-else-last-eq13 c =
    let last = c.in-Some.last.now in
    let other = false_from_ne_true (last == 13) (λ is. c.if-last-eq13.false (eqb-true last 13 is)) in
    let line = c.in-Some.ensures.cases.0 in
    line ∙ sym (ap without_return line ∙ other_kept c.in-Some.front.now last other)
