use Rattle.std.proofs.Common.{◌≡◌, List, [], ◌∷◌, get_or, ap, sym, subst, ◌∙◌, refl, ℕ}
use Rattle.cedr_net.specs.Edges.{all_wait, waits_on_all, ArePorts}
use Rattle.cedr_net.proofs.NetLemmas.{flow_fed, flow_ports}
use Rattle.cedr_net.proofs.flow.Flow.feed.Goals as goal

pub pass_one-requires-clause-ports : goal.pass_one-requires-clause-ports
pass_one-requires-clause-ports c =
    let me = c.args.self.now in
    let r = c.requires in
    subst (λ (rs : List (List (ℕ × ℕ))). ArePorts me.waiting.items (get_or rs c.args.place [])) (sym c.as_slice.ensures.value) (flow_ports r.0 me r.1 r.2 c.args.place r.3 r.4)

pub returns-clause-fed : goal.returns-clause-fed
returns-clause-fed c = λ nodes ports given h within source may.
    let me = c.args.self.now in
    let place = c.args.place in
    let m = c.args.message in
    let sent : c.pass_one.new.waiting.items ≡ all_wait me.waiting.items (get_or me.readers.items place []) (m ∷ []) =
    c.in_ok-pass_one.ensures ∙ ap (λ (rs : List (List (ℕ × ℕ))). waits_on_all me.waiting.items (get_or rs place []) m) c.as_slice.ensures.value in
    flow_fed nodes me _ ports given place m h within source may sent refl refl refl refl refl
