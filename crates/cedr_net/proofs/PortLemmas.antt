-- The ports of the nodes of a network.
use Rattle.std.proofs.Common.{◌≡◌, ℕ, zero, suc, ◌<◌, List, [], ◌∷◌, ◌++◌, Bool, true, false, length, get_or, refl, ap, sym, ◌∙◌, subst, arith}
use Rattle.std.specs.Prelude.{Option, Some, None}
use Rattle.std.specs.List.{slice_get}
use Rattle.cedr_base.specs.declared.change.Message.{Message}
use Rattle.node_laws.specs.Lists.{Lists, list_at}
use Rattle.cedr_plan.specs.declared.plan.PlanNode.{PlanNode}
use Rattle.cedr_node.specs.declared.node.Node.{Node}
use Rattle.cedr_node.proofs.NodeLemmas.{stands_ports}
use Rattle.cedr_plan.specs.Places.{is_source, output_place}
use Rattle.plan_runs.specs.Runs.{lists_at}
use Rattle.plan_runs.proofs.PlanNodes.{place_within, split}
use Rattle.cedr_net.specs.declared.work.Work.{Work}
use Rattle.cedr_net.specs.declared.flow.Flow.{Flow}
use Rattle.cedr_net.specs.Flows.{reads_of, WorksAt, PortAt}
use Rattle.cedr_net.specs.Networks.{FlowStands}
use Rattle.cedr_net.proofs.EdgeLemmas.{sized_at}
use Rattle.cedr_net.proofs.FlowLemmas.{one_node, reads_at, source_has_none}

got_is : (xs : List Work) (k : ℕ) (w d : Work) → slice_get xs k ≡ Some w → get_or xs k d ≡ w
got_is [] k w d e = cc
got_is (x ∷ xs) zero w d e = cc
got_is (x ∷ xs) (suc k) w d e = got_is xs k w d e

is_got : (xs : List Work) (k : ℕ) (d : Work) → k < length xs → slice_get xs k ≡ Some (get_or xs k d)
is_got [] k d within = absurd (omega arith)
is_got (x ∷ xs) zero d within = refl
is_got (x ∷ xs) (suc k) d within = is_got xs k d (omega arith)

-- where the node is made, the plan's node is no source
pub made_here : (works : List Work) (place port : ℕ) (n : PlanNode) (lists : Lists) (given : List Message) → PortAt works place port → ((d : Work) → WorksAt (get_or works place d) n lists given) → is_source n.kind ≡ false
made_here works place port n lists given at works_at = go (is_source n.kind) refl where
  go : (b : Bool) → is_source n.kind ≡ b → b ≡ false
  go false e = refl
  go true e =
      let made : Work = record { node = Some at.0 } in
      let none : (get_or works place made).node ≡ None = (works_at made).source e in
      let some : (get_or works place made).node ≡ Some at.0 = ap (λ (w : Work). w.node) (got_is works place made made at.1) in
      cc

module _ (nodes : List PlanNode) (flow : Flow) (ports : List Lists) (given : Lists) (h : FlowStands nodes flow ports given) where
  -- a node with a port is no source
  pub port_no_source : (before after : List PlanNode) (n : PlanNode) (port : ℕ) → nodes ≡ before ++ n ∷ after → port < length (lists_at ports (length before)) → is_source n.kind ≡ false
  port_no_source before after n port whole in_port = go (is_source n.kind) refl where
    go : (b : Bool) → is_source n.kind ≡ b → b ≡ false
    go false e = refl
    go true e =
        let none = source_has_none nodes (reads_of nodes) flow.waiting.items flow.works.items ports given (length before) h.flows (place_within nodes before after n whole)
        (λ before' after' n' whole' len. subst (λ (m : PlanNode). is_source m.kind ≡ true) (one_node nodes before after before' after' n n' whole whole' (sym len)) e) in
        absurd (omega (arith, none, in_port))

  works_here : (before after : List PlanNode) (n : PlanNode) (d : Work) → nodes ≡ before ++ n ∷ after → WorksAt (get_or flow.works.items (length before) d) n (lists_at ports (length before)) (list_at given (length before))
  works_here before after n d whole = h.flows.work before after n d whole

  -- the output's node
  pub output_works : (n : PlanNode) × (is_source n.kind ≡ false) × ((d : Work) → WorksAt (get_or flow.works.items (output_place nodes) d) n (lists_at ports (output_place nodes)) (list_at given (output_place nodes)))
  output_works =
      let s = split nodes (output_place nodes) h.output_within in (
        s.node,
        port_no_source s.before s.after s.node 0 s.whole (omega (arith, ap (λ (k : ℕ). length (lists_at ports k)) s.place, h.one_port)),
        λ d. subst (λ (k : ℕ). WorksAt (get_or flow.works.items k d) s.node (lists_at ports k) (list_at given k)) s.place (works_here s.before s.after s.node d s.whole),
      )

  -- a port on which a list was taken is one
  pub has_port : (place port : ℕ) → place < length nodes → port < length (lists_at ports place) → PortAt flow.works.items place port
  has_port place port within in_port =
      let s = split nodes place within in
      let here : length (lists_at ports (length s.before)) ≡ length (lists_at ports place) = ap (λ (k : ℕ). length (lists_at ports k)) s.place in
      let isnt = port_no_source s.before s.after s.node port s.whole (omega (arith, here, in_port)) in
      let d : Work = record { node = None } in
      let w = (works_here s.before s.after s.node d s.whole).other isnt in (
        w.0,
        ap (λ (k : ℕ). slice_get flow.works.items k) (sym s.place) ∙ (is_got flow.works.items (length s.before) d (omega (arith, s.place, h.flows.works_count, within)) ∙ ap (λ (o : Option Node). Some (record { node = o })) w.1),
        omega (arith, stands_ports w.0 (lists_at ports (length s.before)) (list_at given (length s.before)) w.3, here, in_port),
      )

  -- there is a list for each port of a node
  pub port_width : (before after : List PlanNode) (n : PlanNode) → nodes ≡ before ++ n ∷ after → length (lists_at ports (length before)) ≡ length n.inputs.items
  port_width before after n whole =
      omega (arith, h.flows.widths (length before), sized_at (reads_of nodes) flow.waiting.items h.flows.sized (length before), ap (λ (is : List ℕ). length is) (reads_at nodes before after n whole))
