-- The nodes of a plan, each at its place and after others.
use Rattle.std.proofs.Common.{◌≡◌, ℕ, zero, suc, ◌<◌, List, [], ◌∷◌, ◌++◌, length, refl, ap, subst, sym, arith, append_assoc}
use Rattle.std.specs.Prelude.{map}
use Rattle.std.proofs.lemmas.List.{append-nil, length-append}
use Rattle.cedr_plan.specs.declared.plan.PlanNode.{PlanNode}
use Rattle.cedr_plan.specs.Drawn.{Node, node_of}
use Rattle.cedr_plan.specs.Rules.{IsNode, AreNodes}

behind_others : (earlier : List Node) (before after : List PlanNode) (n : PlanNode) → AreNodes earlier (map node_of (before ++ n ∷ after)) → IsNode (earlier ++ map node_of before) (node_of n)
behind_others earlier [] after n are = subst (λ (e : List Node). IsNode e (node_of n)) (sym (append-nil earlier)) are.0
behind_others earlier (b ∷ before) after n are =
    subst (λ (e : List Node). IsNode e (node_of n)) (append_assoc earlier (node_of b ∷ []) (map node_of before)) (behind_others (earlier ++ node_of b ∷ []) before after n are.1)

-- a node of a plan may follow those before it
pub node_stands : (nodes before after : List PlanNode) (n : PlanNode) → AreNodes [] (map node_of nodes) → nodes ≡ before ++ n ∷ after → IsNode (map node_of before) (node_of n)
node_stands nodes before after n are whole = behind_others [] before after n (subst (λ (ns : List PlanNode). AreNodes [] (map node_of ns)) whole are)

-- a node's place is one of the plan's
pub place_within : (nodes before after : List PlanNode) (n : PlanNode) → nodes ≡ before ++ n ∷ after → length before < length nodes
place_within nodes before after n whole = omega (arith, ap (λ (ns : List PlanNode). length ns) whole, length-append before (n ∷ after))

-- a node at its place
pub record Split (nodes : List PlanNode) (k : ℕ) : Type 0 where
  pub before : List PlanNode
  pub node : PlanNode
  pub after : List PlanNode
  pub whole : nodes ≡ before ++ node ∷ after
  pub place : length before ≡ k

-- at each place of a plan stands a node, with the nodes before it and those after it
pub split : (nodes : List PlanNode) (k : ℕ) → k < length nodes → Split nodes k
split [] k within = absurd (omega arith)
split (n ∷ nodes) zero within = record { before = []; node = n; after = nodes; whole = refl; place = refl }
split (n ∷ nodes) (suc k) within =
    let s = split nodes k (omega arith) in
    record { before = n ∷ s.before; node = s.node; after = s.after; whole = ap (λ (ns : List PlanNode). n ∷ ns) s.whole; place = ap (λ j. suc j) s.place }
