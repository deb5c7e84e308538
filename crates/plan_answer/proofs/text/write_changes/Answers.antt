use Rattle.std.proofs.Common.{◌≡◌, ◌<◌, ◌+◌, ◌++◌, ◌∷◌, [], List, ℕ, length, get_or, take, ap, sym, ◌∙◌, rules}
use Rattle.std.proofs.lemmas.List.{take_more, flat_map_more}
use Rattle.cedr_base.specs.declared.change.Change.{Change}
use Rattle.cedr_text.specs.Texts.{change_text}
use Rattle.plan_answer.specs.Queries.{changes_text}
use Rattle.plan_answer.proofs.text.write_changes.Goals as goal

pub loop-change-preserved : goal.loop-change-preserved
loop-change-preserved c =
    let cs = c.args.changes.now in
    let i = c.loop-change.change-index in
    let one = c.change-item.result in
    let first = c.args.out.now.items in
    let at : get_or cs i one ≡ one = search rules in
    let within : i < length cs = search rules in
    let more : take (i + 1) cs ≡ take i cs ++ one ∷ [] = take_more cs i one within ∙ ap (λ (x : Change). take i cs ++ x ∷ []) at in
    c.in_ok-write_change.ensures.ok
    ∙ (ap (λ (t : List ℕ). t ++ change_text one) c.loop-change.invariant
    ∙ (flat_map_more change_text first (take i cs) one ∙ ap (λ (xs : List Change). first ++ changes_text xs) (sym more)))
