use Rattle.std.proofs.Common.{List, ℕ, get_or, sym, subst}
use Rattle.node_laws.specs.Lists.{list_at}
use Rattle.plan_runs.specs.Runs.{lists_at}
use Rattle.cedr_net.specs.declared.work.Work.{Work}
use Rattle.cedr_net.specs.Flows.{WorksAt, PortAt}
use Rattle.cedr_net.specs.Networks.{NetStands, HasPort}
use Rattle.cedr_net.specs.declared.net.SerialNet.{SerialNet}
use Rattle.cedr_net.proofs.PortLemmas.{made_here}
use Rattle.cedr_net.proofs.net.SerialNet.forgotten.Goals as goal

pub forgotten_at-requires : goal.forgotten_at-requires
forgotten_at-requires c = subst (λ (ws : List Work). PortAt ws c.args.node c.args.port) (sym c.as_slice.ensures.value) (subst (λ (net : SerialNet). HasPort net c.args.node c.args.port) (sym c.self.view_is) c.requires)

pub returns : goal.returns
returns c = λ nodes ports given stands before after n whole here.
    let h = subst (λ (net : SerialNet). NetStands nodes net ports given) (sym c.self.view_is) stands in
    let has = subst (λ (net : SerialNet). HasPort net c.args.node c.args.port) (sym c.self.view_is) c.requires in
    let works = c.self.inside.net.flow.works.items in
    let node = c.args.node in
    let at = λ (d : Work). subst (λ (k : ℕ). WorksAt (get_or works k d) n (lists_at ports k) (list_at given k)) here (h.stands.flows.work before after n d whole) in
    c.forgotten_at.ensures n (lists_at ports node) (list_at given node)
    (made_here works node c.args.port n (lists_at ports node) (list_at given node) has at)
    (λ d. subst (λ (ws : List Work). WorksAt (get_or ws node d) n (lists_at ports node) (list_at given node)) (sym c.as_slice.ensures.value) (at d))
