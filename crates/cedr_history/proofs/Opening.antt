-- A version that no step has changed.
use Rattle.std.proofs.Common.{◌≡◌, List, [], fold, sym, ap, ◌∙◌, subst}
use Rattle.cedr_history.specs.declared.states.Holding.{Holding}
use Rattle.cedr_history.specs.declared.states.Deed.{Deed}
use Rattle.cedr_history.specs.declared.version.Version.{Version}
use Rattle.cedr_history.specs.Lists.{listed}
use Rattle.cedr_history.specs.Sights.{Sight, SightBegins}
use Rattle.cedr_history.specs.Versions.{IsTied}
use Rattle.cedr_history.specs.Ends.{IsOpening, holding, done, whole}
use Rattle.cedr_history.proofs.Rules.{begins_self}

-- a copy of nothing that takes no step is shown first
pub opens : (x y : Version) (s : Sight) (ds : List Deed) → s.steps ≡ [] → IsOpening x s → ds ≡ [] → holding y ≡ fold done (holding x) ds → IsTied y × SightBegins x.front y.front × IsOpening y s
opens x y s ds empty opening none is =
    let e : holding y ≡ holding x = is ∙ ap (fold done (holding x)) none in
    let front : y.front ≡ x.front = ap (λ (h : Holding). h.front) e in
    let list = ap (λ (h : Holding). h.listed) e ∙ opening.0 in
    let steps = ap (λ (t : Sight). t.steps) (front ∙ opening.1) ∙ empty in
    (list ∙ sym (ap listed steps), subst (λ (t : Sight). SightBegins x.front t) (sym front) (begins_self x.front), (list, front ∙ opening.1))

-- a version with all steps of a history
pub wholly : (x y : Version) (all : Sight) (ds : List Deed) → SightBegins x.front all → fold done (holding x) ds ≡ whole all → holding y ≡ fold done (holding x) ds → IsTied y × SightBegins x.front y.front
wholly x y all ds on ready is =
    let e : holding y ≡ whole all = is ∙ ready in
    let front : y.front ≡ all = ap (λ (h : Holding). h.front) e in
    let list = ap (λ (h : Holding). h.listed) e in
    (list ∙ sym (ap (λ (s : Sight). listed s.steps) front), subst (λ (t : Sight). SightBegins x.front t) (sym front) on)
