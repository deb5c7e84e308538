use Rattle.std.proofs.Common.{List, ℕ, get_or, length, sym, subst, arith, ap}
use Rattle.node_laws.specs.Lists.{list_at}
use Rattle.cedr_plan.specs.Places.{output_place}
use Rattle.plan_runs.specs.Runs.{lists_at}
use Rattle.cedr_net.specs.declared.work.Work.{Work}
use Rattle.cedr_net.specs.Flows.{WorksAt}
use Rattle.cedr_net.specs.Networks.{NetStands}
use Rattle.cedr_net.specs.declared.net.SerialNet.{SerialNet}
use Rattle.cedr_net.proofs.PortLemmas.{output_works}
use Rattle.cedr_net.proofs.net.SerialNet.ended.Goals as goal

pub returns : goal.returns
returns c = λ nodes ports given stands.
    let h = subst (λ (net : SerialNet). NetStands nodes net ports given) (sym c.self.view_is) stands in
    let flow = c.self.inside.net.flow in
    let o = output_works nodes flow ports given h.stands in
    let works = c.as_slice.result.now in
    let all = c.as_slice.ensures.value in
    c.ended_at.ensures o.0 (lists_at ports (output_place nodes)) (list_at given (output_place nodes))
    (omega (arith, ap (λ (ws : List Work). length ws) all, h.stands.flows.works_count, h.stands.output, h.stands.output_within))
    o.1
    (λ d. subst (λ (ws : List Work). WorksAt (get_or ws flow.output d) o.0 (lists_at ports (output_place nodes)) (list_at given (output_place nodes))) (sym all)
    (subst (λ (k : ℕ). WorksAt (get_or flow.works.items k d) o.0 (lists_at ports (output_place nodes)) (list_at given (output_place nodes))) (sym h.stands.output) (o.2 d)))
