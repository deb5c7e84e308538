use Rattle.std.proofs.Common.{[], List, map, ap, sym, subst, ◌∙◌}
use Rattle.worker_outlets.specs.Outgoing.{Outgoing}
use Rattle.worker_outlets.specs.Outlets.{outlet_edge, sent_count, AllTotal, AllStaged}
use Rattle.worker_outlets.proofs.OpenLemmas.{opened_edges, opened_totals, opened_staged, opened_count}
use Rattle.worker_outlets.proofs.outlets.Outlets.new.Goals as goal

pub returns-clause-edges : goal.returns-clause-edges
returns-clause-edges c = ap (λ (os : List Outgoing). map outlet_edge os) c.in_ok-list.ensures ∙ opened_edges c.args.edges.items

pub returns-clause-nothing : goal.returns-clause-nothing
returns-clause-nothing c = subst (λ (os : List Outgoing). AllTotal [] os × AllStaged [] os) (sym c.in_ok-list.ensures) (opened_totals c.args.edges.items, opened_staged c.args.edges.items)

pub returns-clause-sent : goal.returns-clause-sent
returns-clause-sent c = ap sent_count c.in_ok-list.ensures ∙ opened_count c.args.edges.items
