use Rattle.std.proofs.Common.{◌≡◌, ◌+◌, ◌∙◌, ap, sym, take, rules, ◌∷◌, [], ◌++◌, get_or, min}
use Rattle.std.proofs.lemmas.List.{take_more}
use Rattle.cedr_table.specs.Operators.{least_of}
use Rattle.cedr_table.specs.PortLaws.{least_more}
use Rattle.cedr_table.proofs.marks.least_mark.Goals as goal

pub loop-mark-preserved : goal.loop-mark-preserved
loop-mark-preserved c =
    let i = c.loop-mark.mark-index in
    let ms = c.args.marks.now in
    let more : take (i + 1) ms ≡ take i ms ++ (get_or ms i 0 ∷ []) = take_more ms i 0 (search rules) in
    let step : c.min-least.result ≡ min c.loop-mark.least (get_or ms i 0) = search rules in
    step ∙ (ap (λ n. min n (get_or ms i 0)) c.loop-mark.invariant ∙ (sym (least_more (take i ms) (get_or ms i 0)) ∙ ap least_of (sym more)))
