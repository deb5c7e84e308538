use Rattle.std.proofs.Common.{◌≡◌, ◌<◌, ◌+◌, ◌++◌, ◌∷◌, [], List, ℕ, length, get_or, take, ap, sym, ◌∙◌, rules, append_assoc}
use Rattle.std.proofs.lemmas.List.{take_more}
use Rattle.node_laws.specs.declared.forgotten.Forgotten.{Forgotten}
use Rattle.plan_answer.specs.Answers.{forgotten_line, port_text}
use Rattle.plan_answer.proofs.TextLemmas.{port_more}
use Rattle.plan_answer.proofs.forgotten.write_port.Goals as goal

pub loop-one-preserved : goal.loop-one-preserved
loop-one-preserved c =
    let fs = c.args.forgotten.now in
    let i = c.loop-one.one-index in
    let f = c.one-item.result in
    let name = c.args.name.now in
    let port = c.args.port in
    let first = c.args.out.now.items in
    let at : get_or fs i f ≡ f = search rules in
    let within : i < length fs = search rules in
    let more : take (i + 1) fs ≡ take i fs ++ f ∷ [] = take_more fs i f within ∙ ap (λ (x : Forgotten). take i fs ++ x ∷ []) at in
    c.in_ok-write_one.ensures
    ∙ (ap (λ (t : List ℕ). t ++ forgotten_line name port f) c.loop-one.invariant
    ∙ (append_assoc first (port_text name port (take i fs)) (forgotten_line name port f)
    ∙ ap (λ (t : List ℕ). first ++ t) (sym (port_more name port (take i fs) f) ∙ ap (port_text name port) (sym more))))
