-- An accepted plan keeps the rules of a plan.
use Rattle.std.proofs.Common.{◌≡◌, ℕ, suc, ◌+◌, ◌≤◌, Bool, true, false, not, ◌&&◌, List, [], ◌∷◌, ◌++◌, length, Option, Some, None, Result, Ok, Err, codes, nat_lt, nat_le, unwrap_or, count_by, cond, refl, ap, sym, ◌∙◌, subst, append_assoc, true≢false, arith}
use Rattle.std.specs.Bool.{if◌then◌else◌}
use Rattle.std.specs.Option.{option_map_or}
use Rattle.std.proofs.lemmas.Bool.{and_parts, leb-true, ltb-false}
use Rattle.std.proofs.lemmas.List.{append-nil}
use Rattle.std.proofs.lemmas.List.Sums.{sum_by-cons}
use Rattle.serde_json.specs.Data.{Data}
use Rattle.serde_json.specs.Find.{get}
use Rattle.cedr_plan.specs.Drawn.{Node, Drawn}
use Rattle.cedr_plan.specs.Places.{is_output}
use Rattle.cedr_plan.specs.Json.{as_whole, is_whole_within}
use Rattle.cedr_plan.specs.Nodes.{fault_under, fault_without_operator, node_fault, node_from, node_of_value, operator_at}
use Rattle.cedr_plan.specs.Operators.{operator_row}
use Rattle.cedr_plan.specs.Plans.{Refusal, refused, unless_fault, unless_node, lacks_part, has_too_many_nodes, has_bad_edge, document_fault, edge_of, version_at, node_values, nodes_from, outputs_from, excess_output, plan_with, plan_of_nodes, plan_of_json, json_of, longest, plan_of}
use Rattle.cedr_plan.specs.Rules.{IsNode, AreNodes, first_unused, IsSound}
use Rattle.cedr_plan.specs.declared.fault.PlanKind.{PlanKind}
use Rattle.cedr_plan.specs.declared.fault.PlanKind.TheVariants as kind
use Rattle.cedr_plan.specs.declared.operator.Operator.{Operator}
use Rattle.cedr_plan.specs.declared.operator.Operator.TheVariants as operator
use Rattle.cedr_plan.proofs.TestLemmas.{not_false}
use Rattle.cedr_plan.proofs.SoundNodes.{no_fault, node_is, none_hold}

-- ---- nodes

node_known : (earlier : List Node) (d : Data) (o : Option Operator) → option_map_or (λ operator. fault_under (operator_row operator) earlier d) o (Some (fault_without_operator d)) ≡ None
    → IsNode earlier (node_from (unwrap_or o operator.Output) earlier d)
node_known earlier d None h = let no : ⊥ = cc in absurd no
node_known earlier d (Some o) h = node_is o earlier d (no_fault (operator_row o) earlier d h)

node_sound : (version : ℕ) (earlier : List Node) (d : Data) → node_fault version earlier d ≡ None → IsNode earlier (node_of_value version earlier d)
node_sound version earlier d h = node_known earlier d (operator_at version d) h

-- the nodes stand after the earlier ones, one for each value
pub record AreNodesOf (earlier : List Node) (ds : List Data) (nodes : List Node) : Type 0 where
  pub more : List Node
  pub behind : nodes ≡ earlier ++ more
  pub sound : AreNodes earlier more
  pub count : length more ≡ length ds

one_more : (version : ℕ) (earlier : List Node) (d : Data) (ds : List Data) (nodes : List Node) (found : Option PlanKind) → node_fault version earlier d ≡ found
    → unless_fault found (length earlier + 1) (nodes_from version (earlier ++ node_of_value version earlier d ∷ []) ds) ≡ Ok nodes
    → (nodes_from version (earlier ++ node_of_value version earlier d ∷ []) ds ≡ Ok nodes → AreNodesOf (earlier ++ node_of_value version earlier d ∷ []) ds nodes) → AreNodesOf earlier (d ∷ ds) nodes
one_more version earlier d ds nodes (Some kind) e h rest = let no : ⊥ = cc in absurd no
one_more version earlier d ds nodes None e h rest =
    let r = rest h in
    record {
      more = node_of_value version earlier d ∷ r.more;
      behind = r.behind ∙ append_assoc earlier (node_of_value version earlier d ∷ []) r.more;
      sound = (node_sound version earlier d e, r.sound);
      count = ap suc r.count;
    }

nodes_are : (version : ℕ) (earlier : List Node) (ds : List Data) (nodes : List Node) → nodes_from version earlier ds ≡ Ok nodes → AreNodesOf earlier ds nodes
nodes_are version earlier [] nodes h = record { more = []; behind = (let same : nodes ≡ earlier = cc in same ∙ sym (append-nil earlier)); sound = tt; count = refl }
nodes_are version earlier (d ∷ ds) nodes h = one_more version earlier d ds nodes (node_fault version earlier d) refl h (nodes_are version (earlier ++ node_of_value version earlier d ∷ []) ds nodes)

-- ---- outputs

outputs_by : (b : Bool) (number n : ℕ) (rest : List ℕ) → length rest ≡ n → length (if b then number ∷ rest else rest) ≡ cond b 1 0 + n
outputs_by true number n rest e = omega (arith, e)
outputs_by false number n rest e = omega (arith, e)

outputs_count : (number : ℕ) (nodes : List Node) → length (outputs_from number nodes) ≡ count_by (λ (node : Node). is_output node.kind) nodes
outputs_count number [] = refl
outputs_count number (node ∷ nodes) =
    outputs_by (is_output node.kind) number (count_by (λ (node : Node). is_output node.kind) nodes) (outputs_from (number + 1) nodes) (outputs_count (number + 1) nodes)
    ∙ sym (sum_by-cons (λ (x : Node). cond (is_output x.kind) 1 0) node nodes)

one_of : (outputs : List ℕ) → excess_output outputs ≡ None → length outputs ≡ 1
one_of [] h = let no : ⊥ = cc in absurd no
one_of (only ∷ []) h = refl
one_of (first ∷ second ∷ more) h = let no : ⊥ = cc in absurd no

-- ---- the plan as a whole

-- what a plan of some nodes is
pub record IsPlanOf (edge : ℕ) (nodes : List Node) (plan : Drawn) : Type 0 where
  pub one_output : excess_output (outputs_from 1 nodes) ≡ None
  pub used : first_unused 0 nodes ≡ None
  pub same : record { nodes = nodes; edge = edge } ≡ plan

whole_by : (edge : ℕ) (nodes : List Node) (plan : Drawn) (excess unused : Option ℕ) → excess_output (outputs_from 1 nodes) ≡ excess → first_unused 0 nodes ≡ unused
    → unless_node kind.NotOneOutput excess (unless_node kind.Unused unused (Ok (record { nodes = nodes; edge = edge }))) ≡ Ok plan → IsPlanOf edge nodes plan
whole_by edge nodes plan (Some node) unused e u h = let no : ⊥ = cc in absurd no
whole_by edge nodes plan None (Some node) e u h = let no : ⊥ = cc in absurd no
whole_by edge nodes plan None None e u h = record { one_output = e; used = u; same = cc }

whole : (edge : ℕ) (nodes : List Node) (plan : Drawn) → plan_with edge nodes ≡ Ok plan → IsPlanOf edge nodes plan
whole edge nodes plan h = whole_by edge nodes plan (excess_output (outputs_from 1 nodes)) (first_unused 0 nodes) refl refl h

-- ---- the document

edge_whole : (w : Option ℕ) → not (option_map_or (λ n. nat_le 1 n && nat_le n 1024) w false) ≡ false → (1 ≤ unwrap_or w 64) × (unwrap_or w 64 ≤ 1024)
edge_whole None h = absurd (true≢false h)
edge_whole (Some n) h =
    let parts = and_parts (nat_le 1 n) (nat_le n 1024) (not_false _ h) in
    (leb-true 1 n parts.0, leb-true n 1024 parts.1)

edge_found : (o : Option Data) → option_map_or (λ edge. not (is_whole_within 1 1024 edge)) o false ≡ false
    → (1 ≤ option_map_or (λ edge. unwrap_or (as_whole edge) 64) o 64) × (option_map_or (λ edge. unwrap_or (as_whole edge) 64) o 64 ≤ 1024)
edge_found None h = (omega arith, omega arith)
edge_found (Some edge) h = edge_whole (as_whole edge) h

edge_in : (d : Data) → has_bad_edge d ≡ false → (1 ≤ edge_of d) × (edge_of d ≤ 1024)
unfolding has_bad_edge
edge_in d h = edge_found (get (codes "edge") d) h

few_nodes : (d : Data) → has_too_many_nodes d ≡ false → length (node_values d) ≤ 64
unfolding has_too_many_nodes
few_nodes d h = ltb-false 64 (length (node_values d)) h

-- ---- the bytes

-- the plan comes from the document in these bytes, which has no fault
pub record IsRead (bytes : List ℕ) (plan : Drawn) : Type 0 where
  pub document : Data
  pub document_is : json_of bytes ≡ Some document
  pub no_fault : document_fault document ≡ None
  pub nodes : List Node
  pub nodes_are : nodes_from (version_at document) [] (node_values document) ≡ Ok nodes
  pub plan_is : IsPlanOf (edge_of document) nodes plan

read_by : (bytes : List ℕ) (d : Data) (plan : Drawn) (read : Result (List Node) Refusal) → json_of bytes ≡ Some d → document_fault d ≡ None → nodes_from (version_at d) [] (node_values d) ≡ read
    → plan_of_nodes (edge_of d) read ≡ Ok plan → IsRead bytes plan
read_by bytes d plan (Ok nodes) is none e h = record { document = d; document_is = is; no_fault = none; nodes = nodes; nodes_are = e; plan_is = whole (edge_of d) nodes plan h }
read_by bytes d plan (Err refusal) is none e h = let no : ⊥ = cc in absurd no

value_by : (bytes : List ℕ) (d : Data) (plan : Drawn) (found : Option PlanKind) → json_of bytes ≡ Some d → document_fault d ≡ found
    → unless_fault found 0 (plan_of_nodes (edge_of d) (nodes_from (version_at d) [] (node_values d))) ≡ Ok plan → IsRead bytes plan
value_by bytes d plan (Some kind) is e h = let no : ⊥ = cc in absurd no
value_by bytes d plan None is e h = read_by bytes d plan (nodes_from (version_at d) [] (node_values d)) is e refl h

json_by : (bytes : List ℕ) (plan : Drawn) (found : Option Data) → json_of bytes ≡ found → plan_of_json found ≡ Ok plan → IsRead bytes plan
json_by bytes plan None is h = let no : ⊥ = cc in absurd no
json_by bytes plan (Some d) is h = value_by bytes d plan (document_fault d) is refl h

long_or_not : (bytes : List ℕ) (plan : Drawn) (long : Bool) → (if long then refused kind.TooLong 0 else plan_of_json (json_of bytes)) ≡ Ok plan → IsRead bytes plan
long_or_not bytes plan true h = let no : ⊥ = cc in absurd no
long_or_not bytes plan false h = json_by bytes plan (json_of bytes) refl h

-- where the plan that bytes describe comes from
pub plan_read : (bytes : List ℕ) (plan : Drawn) → plan_of bytes ≡ Ok plan → IsRead bytes plan
unfolding plan_of
plan_read bytes plan h = long_or_not bytes plan (nat_lt longest (length bytes)) h

sound_by : (d : Data) (nodes : List Node) (plan : Drawn) → has_too_many_nodes d ≡ false → has_bad_edge d ≡ false → AreNodesOf [] (node_values d) nodes → IsPlanOf (edge_of d) nodes plan → IsSound plan
sound_by d nodes plan many edge are is =
    let low_high = edge_in d edge in
    let count : length nodes ≤ 64 = omega (arith, few_nodes d many, are.count, ap length are.behind) in
    subst IsSound is.same (record {
      nodes = subst (AreNodes []) (sym are.behind) are.sound;
      count = count;
      least_edge = low_high.0;
      most_edge = low_high.1;
      one_output = sym (outputs_count 1 nodes) ∙ one_of (outputs_from 1 nodes) is.one_output;
      used = is.used;
    })

-- the plan that bytes describe keeps the rules
pub plan_sound : (bytes : List ℕ) (plan : Drawn) → plan_of bytes ≡ Ok plan → IsSound plan
plan_sound bytes plan h =
    let r = plan_read bytes plan h in
    let d = r.document in
    let none = none_hold ((lacks_part d, kind.MissingPart) ∷ (has_too_many_nodes d, kind.TooMany) ∷ (has_bad_edge d, kind.BadNumber) ∷ []) r.no_fault in
    sound_by d r.nodes plan none.1.0 none.1.1.0 (nodes_are (version_at d) [] (node_values d) r.nodes r.nodes_are) r.plan_is
