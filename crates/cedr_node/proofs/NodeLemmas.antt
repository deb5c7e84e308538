-- What follows for a node that stands between lists.
use Rattle.std.proofs.Common.{◌≡◌, ℕ, ◌<◌, zero, suc, List, [], ◌∷◌, ap, sym, ◌∙◌, subst, arith, length, get_or, replicate}
use Rattle.std.proofs.lemmas.List.{length-map, length-replicate}
use Rattle.cedr_base.specs.declared.level.Level.{Level}
use Rattle.cedr_base.specs.declared.change.Message.{Message}
use Rattle.cedr_base.specs.Messages.{IsLegal}
use Rattle.cedr_table.specs.Operators.{Meaning}
use Rattle.cedr_plan.specs.Drawn.{Node as DrawnNode, node_of}
use Rattle.cedr_plan.specs.declared.plan.PlanNode.{PlanNode}
use Rattle.node_laws.specs.declared.forgotten.Forgotten.{Forgotten}
use Rattle.node_laws.specs.Kept.{forgot}
use Rattle.node_laws.specs.Lists.{Lists, list_at}
use Rattle.node_laws.specs.Lawful.{IsLawful}
use Rattle.op_node.specs.Meanings.{meaning_of, port_levels}
use Rattle.cedr_node.specs.declared.node.Node.{Node}
use Rattle.cedr_node.specs.declared.port.Port.{Port}
use Rattle.cedr_node.specs.Standing.{AllStand, levels_of, IsForgottenAt}
use Rattle.cedr_node.specs.Nodes.{made_of, meaning_in, port_count, NodeStands}
use Rattle.cedr_node.proofs.PortLists.{all_length}

-- lists on which ports stand are legal
all_legal : (ps : List Port) (ls : Lists) → AllStand ps ls → (port : ℕ) → IsLegal (list_at ls port)
all_legal [] [] h port = tt
all_legal [] (l ∷ ls) h port = absurd h
all_legal (p ∷ ps) [] h port = absurd h
all_legal (p ∷ ps) (l ∷ ls) h zero = let stands = h.0 in stands.aligns.legal
all_legal (p ∷ ps) (l ∷ ls) h (suc port) = all_legal ps ls h.1 port

-- where each port has one level, the port at a place has it
pub level_at : (n : ℕ) (v : Level) (ps : List Port) (k : ℕ) (d : Port) → levels_of ps ≡ replicate n v → k < length ps → (get_or ps k d).aligner.level ≡ v
level_at n v [] k d h within = absurd (omega arith)
level_at zero v (p ∷ ps) k d h within = cc
level_at (suc n) v (p ∷ ps) zero d h within = cc
level_at (suc n) v (p ∷ ps) (suc k) d h within = let rest : levels_of ps ≡ replicate n v = cc in level_at n v ps k d rest (omega arith)

-- the level and the ports of a copy of a plan's node are those of the node
pub same_ports : (a b : PlanNode) → node_of a ≡ node_of b → port_levels a ≡ port_levels b
same_ports a b same = ap (λ (n : DrawnNode). replicate (length n.inputs) n.level) same

module _ (node : Node) (lists : Lists) (given : List Message) (h : NodeStands node lists given) where
  pub stands_lawful : IsLawful (meaning_of (made_of node)) (port_levels (made_of node)) lists given
  stands_lawful =
      subst (λ (m : Meaning). IsLawful m (port_levels (made_of node)) lists given) h.means
      (subst (λ (vs : List Level). IsLawful (meaning_in node) vs lists given) h.levels h.between.lawful)

  pub stands_ports : length lists ≡ port_count node
  stands_ports = sym (all_length node.works.value.ports.items lists h.between.ports_stand)

  pub stands_inputs : length lists ≡ length (made_of node).inputs.items
  stands_inputs =
      stands_ports
      ∙ (sym (length-map node.works.value.ports.items (λ (p : Port). p.aligner.level))
      ∙ (ap (λ (vs : List Level). length vs) h.levels ∙ length-replicate (length (made_of node).inputs.items) (made_of node).level))

  pub stands_legal : (port : ℕ) → IsLegal (list_at lists port)
  stands_legal = all_legal node.works.value.ports.items lists h.between.ports_stand

  -- what a port forgot, at its level
  pub stands_forgot : (port : ℕ) (listed : List Forgotten) → port < port_count node → IsForgottenAt node.works.value.ports.items port (list_at lists port) listed → listed ≡ forgot (made_of node).level.memory (list_at lists port)
  stands_forgot port listed within f =
      let at = level_at (length (made_of node).inputs.items) (made_of node).level node.works.value.ports.items port f.at h.levels within in
      f.all ∙ ap (λ (v : Level). forgot v.memory (list_at lists port)) (ap (λ (p : Port). p.aligner.level) (sym f.stands_at) ∙ at)
