use Rattle.std.proofs.Common.{◌≡◌, ◌∷◌, ◌∙◌, [], ℕ, List, length, replicate, map, refl, sym, ap, subst, arith}
use Rattle.std.specs.List.{All}
use Rattle.std.specs.Vec.{vec_capacity}
use Rattle.cedr_edge.specs.Ends.{InEnd}
use Rattle.cedr_history.specs.Ends.{Writing}
use Rattle.cedr_node.specs.declared.node.Node.{Node}
use Rattle.cedr_node.specs.Nodes.{made_of, NodeStands}
use Rattle.cedr_plan.specs.Drawn.{node_of}
use Rattle.plan_edges.specs.Wires.{in_edge}
use Rattle.cedr_worker.specs.declared.output.OutputWorker.{OutputWorker}
use Rattle.cedr_worker.specs.OutputTurns.{OutputWorks}
use Rattle.plan_workers.proofs.MakeLemmas.{only_end, output_ports}
use Rattle.plan_workers.proofs.making.make_output.Goals as goal

pub new-worker-requires-clause-stands : goal.new-worker-requires-clause-stands
new-worker-requires-clause-stands g c =
    let n = c.args.node.now in
    subst (λ (k : ℕ). NodeStands c.in_ok-made.made (replicate k []) []) (output_ports n.kind (length n.inputs.items) c.requires.kind c.requires.can.1.ready) c.in_ok-made.ensures.stands

pub new-worker-requires-clause-taken : goal.new-worker-requires-clause-taken
new-worker-requires-clause-taken g c =
    let n = c.args.node.now in
    let can = c.requires.can.1 in
    let one : length c.args.ends ≡ 1 = can.ports ∙ output_ports n.kind (length n.inputs.items) c.requires.kind can.ready in
    let only = only_end c.pop.new.self.items c.args.ends c.in-Some.input one (sym c.into_vec-ends.ensures ∙ c.in-Some.ensures.items) in
    subst (λ (ends : List InEnd). All (λ (e : InEnd). e.taken ≡ []) ends) only.1 can.taken 0 c.in-Some.input (omega arith)

pub returns : goal.returns
returns g c = λ history new.
    let n = c.args.node.now in
    let can = c.requires.can.1 in
    let one : length c.args.ends ≡ 1 = can.ports ∙ output_ports n.kind (length n.inputs.items) c.requires.kind can.ready in
    let only = only_end c.pop.new.self.items c.args.ends c.in-Some.input one (sym c.into_vec-ends.ensures ∙ c.in-Some.ensures.items) in
    let worker = c.new-2.ensures.0 in
    let spare = c.new-2.ensures.1 in
    let made = c.new-worker.ensures in
    record {
      output = c.requires.kind;
      works = subst OutputWorks (sym worker) made.works;
      number = ap (λ (w : OutputWorker). w.number) worker ∙ made.number;
      made = ap (λ (w : OutputWorker). node_of (made_of w.node)) worker ∙ (ap (λ (k : Node). node_of (made_of k)) made.node ∙ c.in_ok-made.ensures.made_of);
      takes = ap (λ (w : OutputWorker). w.input.edge ∷ []) worker ∙ (ap (λ (e : InEnd). e.edge ∷ []) made.input ∙ sym (ap (map in_edge) only.1));
      puts = refl;
      history = ap (λ (w : OutputWorker). w.writer.history) worker ∙ (ap (λ (w : Writing). w.history) (made.writer ∙ c.into_parts-rt.ensures) ∙ new.of);
      spare = ap (λ v. v.items) spare ∙ only.0;
      room =
          let ok = c.into_vec-ends.result.ok in
          let kept = c.pop.ensures.capacity in
          let same : vec_capacity c.new-2.result.spare ≡ vec_capacity c.pop.new.self = ap vec_capacity spare in
          let count : length c.into_vec-ends.result.items ≡ length c.args.ends = ap (λ (ends : List InEnd). length ends) c.into_vec-ends.ensures in
          omega (arith, ok.0, ok.1, kept, same, count, one);
    }
