use Rattle.std.proofs.Common.{◌∷◌, [], List, ap, sym, subst, ◌∙◌, ℕ}
use Rattle.node_laws.specs.Lists.{Lists}
use Rattle.cedr_net.specs.Edges.{waits_on, waits_on_all, ArePorts, IsPort}
use Rattle.cedr_net.proofs.EdgeLemmas.{ports_split, all_stay, waits_append}
use Rattle.cedr_net.proofs.edges.send_one.Goals as goal

pub send_copies-requires : goal.send_copies-requires
send_copies-requires c =
    let waiting = c.args.waiting.now.items in
    (ports_split waiting c.in-Some.others.now (c.in-Some.last.now ∷ []) (subst (ArePorts waiting) c.in-Some.ensures.cases.0 c.requires)).0

pub send_to-requires : goal.send_to-requires
send_to-requires c =
    let waiting = c.args.waiting.now.items in
    let others = c.in-Some.others.now in
    let last = c.in-Some.last.now in
    let both = ports_split waiting others (last ∷ []) (subst (ArePorts waiting) c.in-Some.ensures.cases.0 c.requires) in
    subst (λ (ws : List Lists). IsPort ws last) (sym c.in_ok-send_copies-in-Some.ensures) (all_stay others (last ∷ []) waiting c.args.message both.0 both.1).0

pub returns-in_ok-send_to-in-Some : goal.returns-in_ok-send_to-in-Some
returns-in_ok-send_to-in-Some c =
    let waiting = c.args.waiting.now.items in
    let others = c.in-Some.others.now in
    let last = c.in-Some.last.now in
    c.in_ok-send_to-in-Some.ensures
    ∙ (ap (λ (ws : List Lists). waits_on ws last c.args.message) c.in_ok-send_copies-in-Some.ensures
    ∙ (sym (waits_append waiting others (last ∷ []) c.args.message) ∙ ap (λ (rs : List (ℕ × ℕ)). waits_on_all waiting rs c.args.message) (sym c.in-Some.ensures.cases.0)))
