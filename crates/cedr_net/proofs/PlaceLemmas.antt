-- What stands at a place of a plan: a source, or a node with its ports.
use Rattle.std.proofs.Common.{◌≡◌, ℕ, ◌<◌, List, [], ◌∷◌, ◌++◌, length, get_or, refl, ap, sym, ◌∙◌, subst, arith}
use Rattle.std.specs.Prelude.{true}
use Rattle.std.proofs.Math.Seq.{get_or-append_seam}
use Rattle.node_laws.specs.Lists.{Lists}
use Rattle.cedr_plan.specs.declared.plan.PlanNode.{PlanNode}
use Rattle.plan_runs.specs.Runs.{lists_at}
use Rattle.cedr_plan.specs.Places.{is_source}
use Rattle.cedr_net.specs.declared.net.SerialNet.{SerialNet}
use Rattle.cedr_net.specs.Flows.{IsSourceAt}
use Rattle.cedr_net.specs.Networks.{NetStands, HasPort}
use Rattle.plan_runs.proofs.PlanNodes.{split}
use Rattle.cedr_net.proofs.PortLemmas.{port_width, has_port}

-- the node at a place is a source
pub source_here : (nodes : List PlanNode) (place : ℕ) (n : PlanNode) → place < length nodes → get_or nodes place n ≡ n → is_source n.kind ≡ true → IsSourceAt nodes place
source_here nodes place n within here is = λ before after m whole len. subst (λ (k : PlanNode). is_source k.kind ≡ true) (sym here ∙ at_place before after m whole len) is where
  there : (before after : List PlanNode) (m : PlanNode) → get_or (before ++ m ∷ after) (length before) n ≡ m
  there [] after m = refl
  there (b ∷ before) after m = there before after m

  at_place : (before after : List PlanNode) (m : PlanNode) → nodes ≡ before ++ m ∷ after → length before ≡ place → get_or nodes place n ≡ m
  at_place before after m whole len = ap (λ (ns : List PlanNode). get_or ns place n) whole ∙ (ap (λ (k : ℕ). get_or (before ++ m ∷ after) k n) (sym len) ∙ there before after m)

-- the node at a place has the ports that the plan says
pub port_here : (nodes : List PlanNode) (net : SerialNet) (ports : List Lists) (given : Lists) → NetStands nodes net ports given → (place port : ℕ) (n : PlanNode) → place < length nodes → get_or nodes place n ≡ n → port < length n.inputs.items → HasPort net place port
port_here nodes net ports given h place port n within here in_port =
    let s = split nodes place within in
    let same : s.node ≡ n = sym (get_or-append_seam s.before s.node s.after n) ∙ (ap (λ (ns : List PlanNode). get_or ns (length s.before) n) (sym s.whole) ∙ (ap (λ (k : ℕ). get_or nodes k n) s.place ∙ here)) in
    let wide = port_width nodes net.flow ports given h.stands s.before s.after s.node s.whole in
    has_port nodes net.flow ports given h.stands place port within (omega (arith, wide, ap (λ (m : PlanNode). length m.inputs.items) same, ap (λ (k : ℕ). length (lists_at ports k)) s.place, in_port))
