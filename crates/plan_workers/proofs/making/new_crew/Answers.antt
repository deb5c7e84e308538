use Rattle.std.proofs.Common.{◌≡◌, ◌∙◌, ◌++◌, List, map, sym, ap, subst, arith}
use Rattle.std.specs.Prelude.{count_by}
use Rattle.cedr_edge.specs.Ends.{InEnd, OutEnd}
use Rattle.cedr_plan.specs.Drawn.{Node, node_of}
use Rattle.cedr_plan.specs.Places.{is_output}
use Rattle.cedr_plan.specs.declared.plan.PlanNode.{PlanNode}
use Rattle.plan_workers.specs.declared.worker.Worker.{Worker}
use Rattle.plan_workers.specs.Making.{AllCanWork, AreMade}
use Rattle.plan_workers.proofs.MakeLemmas.{crew_made}
use Rattle.plan_workers.proofs.PlanLemmas.{can_work}
use Rattle.plan_workers.proofs.making.new_crew.Goals as goal

pub make_workers-requires-clause-can : goal.make_workers-requires-clause-can
make_workers-requires-clause-can g c =
    let opened = c.in-Ok-open_edges in
    subst (λ (z : List PlanNode × (List (List InEnd) × List (List OutEnd))). AllCanWork z.0 z.1.0 z.1.1) (λ i. (sym c.as_slice-nodes.ensures.value i, (sym c.from_vec-takers.ensures.items i, sym c.from_vec-putters.ensures.items i)))
    (can_work c.args.plan.now opened.wires.takers.items opened.wires.putters.items c.requires.plan opened.ensures.wired opened.ensures.new)

pub returns-in-Ok-make_workers-clause-made : goal.returns-in-Ok-make_workers-clause-made
returns-in-Ok-make_workers-clause-made g c =
    let nodes = c.as_slice-nodes.ensures.value in
    let opened = c.in-Ok-open_edges in
    let count : count_by (λ (node : Node). is_output node.kind) (map node_of c.as_slice-nodes.result.now) ≡ count_by (λ (node : Node). is_output node.kind) (map node_of c.args.plan.now.nodes.items) = ap (λ (ns : List PlanNode). count_by (λ (node : Node). is_output node.kind) (map node_of ns)) nodes in
    let made = c.in-Ok-make_workers.ensures.made opened.reader.history (opened.ensures.writer, omega (arith, count, c.requires.plan.one_output)) in
    let workers = made.1.0 ∙ ap (λ (ws : List (Worker g.row.S.Denot g.row.R.Denot)). ws ++ made.0) c.in-Ok-with_capacity.ensures.items in
    crew_made g.S.Source.rest g.S.Source.faults c.args.plan.now.nodes.items opened.wires.takers.items opened.wires.putters.items c.args.sources.items c.make_workers.new.making.workers.items opened.reader opened.ensures.wired opened.ensures.reader
    (subst (λ (z : List PlanNode × (List (List InEnd) × (List (List OutEnd) × (List g.row.S.Denot × List (Worker g.row.S.Denot g.row.R.Denot))))). AreMade g.S.Source.rest g.S.Source.faults 0 z.0 z.1.0 z.1.1.0 z.1.1.1.0 opened.reader.history z.1.1.1.1)
    (λ i. (nodes i, (c.from_vec-takers.ensures.items i, (c.from_vec-putters.ensures.items i, (c.from_vec.ensures.items i, sym workers i))))) made.1.1)
