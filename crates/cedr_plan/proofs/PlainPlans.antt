-- The groups of a version 1 plan are plain.
use Rattle.std.proofs.Common.{◌≡◌, ℕ, ◌+◌, ◌≤◌, List, [], ◌∷◌, ◌++◌, length, All, Option, Some, None, Ok, option_map, option_and_then, unwrap_or, codes, refl, ap, sym, subst, ◌∙◌, arith}
use Rattle.std.proofs.lemmas.List.Elements.{All-nil, All-cons, All-append}
use Rattle.serde_json.specs.Data.{Data}
use Rattle.serde_json.specs.Find.{get, as_str}
use Rattle.cedr_plan.specs.Drawn.{Node, Drawn}
use Rattle.cedr_plan.specs.Nodes.{kind_from, node_fault, node_of_value, operator_at}
use Rattle.cedr_plan.specs.Operators.{operator_row, operator_of}
use Rattle.cedr_plan.specs.Plans.{version_at, stated_version, unless_fault, nodes_from, node_values, plan_of}
use Rattle.cedr_plan.specs.Rules.{IsPlain, HasPlainGroups}
use Rattle.cedr_plan.specs.declared.fault.PlanKind.{PlanKind}
use Rattle.cedr_plan.specs.declared.operator.Operator.{Operator}
use Rattle.cedr_plan.specs.declared.operator.Operator.TheVariants as operator
use Rattle.cedr_plan.proofs.SoundPlans.{plan_read}
use Rattle.cedr_plan.proofs.WordLemmas.{known_in}

-- an operator of version 1 makes no group that isn't plain
plain_kind : (o : Operator) (d : Data) → (operator_row o).since ≤ 1 → IsPlain (kind_from o d)
plain_kind operator.Group d old = (refl, refl)
plain_kind operator.RangedGroup d old = absurd (omega arith)
plain_kind o d old = tt

plain_by : (d : Data) (word : Option (List ℕ)) (found : Option Operator) → option_and_then (operator_of 1) word ≡ found → IsPlain (kind_from (unwrap_or found operator.Output) d)
plain_by d word None e = tt
plain_by d None (Some o) e = let no : ⊥ = cc in absurd no
plain_by d (Some word) (Some o) e = plain_kind o d (known_in 1 word o e)

-- a node that is read in version 1 is no group that isn't plain
plain_node : (earlier : List Node) (d : Data) → IsPlain (node_of_value 1 earlier d).kind
plain_node earlier d = plain_by d (option_and_then as_str (get (codes "op") d)) (operator_at 1 d) refl

-- nodes of which none is a group that isn't plain
abbrev ArePlain : List Node → Type 0
ArePlain nodes = All (λ (node : Node). IsPlain node.kind) nodes

plain_behind : (earlier : List Node) (d : Data) (ds : List Data) (nodes : List Node) (found : Option PlanKind)
    → unless_fault found (length earlier + 1) (nodes_from 1 (earlier ++ node_of_value 1 earlier d ∷ []) ds) ≡ Ok nodes
    → (nodes_from 1 (earlier ++ node_of_value 1 earlier d ∷ []) ds ≡ Ok nodes → ArePlain nodes) → ArePlain nodes
plain_behind earlier d ds nodes (Some kind) h rest = let no : ⊥ = cc in absurd no
plain_behind earlier d ds nodes None h rest = rest h

plain_nodes : (earlier : List Node) (ds : List Data) (nodes : List Node) → ArePlain earlier → nodes_from 1 earlier ds ≡ Ok nodes → ArePlain nodes
plain_nodes earlier [] nodes plain h = let same : earlier ≡ nodes = cc in subst ArePlain same plain
plain_nodes earlier (d ∷ ds) nodes plain h =
    let one = All-cons (λ (node : Node). IsPlain node.kind) (node_of_value 1 earlier d) [] (plain_node earlier d) (All-nil (λ (node : Node). IsPlain node.kind)) in
    let more = All-append (λ (node : Node). IsPlain node.kind) earlier (node_of_value 1 earlier d ∷ []) plain one in
    plain_behind earlier d ds nodes (node_fault 1 earlier d) h (plain_nodes (earlier ++ node_of_value 1 earlier d ∷ []) ds nodes more)

-- the groups of a plan that bytes describe in version 1 are plain
pub plan_plain : (bytes : List ℕ) (plan : Drawn) → plan_of bytes ≡ Ok plan → stated_version bytes ≡ Some 1 → HasPlainGroups plan
plan_plain bytes plan h version =
    let r = plan_read bytes plan h in
    let stated : Some (version_at r.document) ≡ Some 1 = sym (ap (option_map version_at) r.document_is) ∙ version in
    let one : version_at r.document ≡ 1 = cc in
    let read : nodes_from 1 [] (node_values r.document) ≡ Ok r.nodes = subst (λ v. nodes_from v [] (node_values r.document) ≡ Ok r.nodes) one r.nodes_are in
    subst HasPlainGroups r.plan_is.same (plain_nodes [] (node_values r.document) r.nodes (All-nil (λ (node : Node). IsPlain node.kind)) read)
