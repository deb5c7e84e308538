-- Columns that all nodes keep can be taken within the widths: where a column is past its node's, all that are tied to it are
-- past theirs, and the first column does as well.
use Rattle.std.proofs.Common.{◌≡◌, ℕ, zero, suc, ◌+◌, ◌-◌, ◌<◌, ◌≤◌, inl, inr, arith, List, [], ◌∷◌, ◌++◌, length, take, Bool, true, false, cond, leb, refl, ap, subst, sym, ◌∙◌, eqb-true, replicate}
use Rattle.std.specs.Prelude.{Option, Some, None, IfSome, All, map, ◌==◌}
use Rattle.std.specs.List.{slice_get, list_any, AllByRecursion}
use Rattle.std.proofs.lemmas.Bool.{leb-true, le-leb, or_cases}
use Rattle.std.proofs.lemmas.List.{length-append, length-take, length-map}
use Rattle.std.proofs.lemmas.List.Elements.{All-head, All-tail, All-get_or, All-from_get_or}
use Rattle.std.proofs.lemmas.Option.{slice_get_within, get_or_from_slice_get}
use Rattle.cedr_base.specs.declared.field.FieldType.{FieldType}
use Rattle.cedr_base.specs.declared.field.FieldType.TheVariants as field_type
use Rattle.cedr_expr.specs.declared.test.Test.{Test}
use Rattle.cedr_expr.specs.Columns.{kept_columns}
use Rattle.cedr_expr.specs.Types.{keep_fault_of}
use Rattle.cedr_plan.specs.declared.plan.NodeKind.{NodeKind}
use Rattle.cedr_plan.specs.declared.plan.NodeKind.TheVariants as kind
use Rattle.cedr_plan.specs.declared.plan.PlanNode.{PlanNode}
use Rattle.cedr_plan.specs.Drawn.{node_of}
use Rattle.cedr_plan.specs.Nodes.{types_of, first_port, all_ports, like_first, count_types, group_types}
use Rattle.cedr_plan.specs.Operators.{operator_row}
use Rattle.cedr_plan.specs.Rules.{IsNode, AreNodes, FitsPorts, HasTypes, operator_of_kind, port_types}
use Rattle.cedr_plan.proofs.PlaceLemmas.{node_is, inputs_are}
use Rattle.plan_keys.specs.Keys.{KeyedPort, KeepsKey, key_places, keyed_ports, AreKeyed, AreInWidth, HaveColumn, IsOneOf, IsTiedJoin, IsTiedFirst, first_repeated, AreOneKind, AreRenamed, column_at, width_at}
use Rattle.plan_keys.proofs.Columns.{there, kept_length}
use Rattle.plan_keys.proofs.Widths.{columns_there}
use Rattle.plan_key_choice.specs.Choices.{AreInWidths, IsUnkeyed, KeepsKeyAt}
use Rattle.plan_key_choice.proofs.Places.{keyed_at, keyed_from_each, width_take, if_some}

-- a column of so many, or the first one
abbrev clamp : ℕ → ℕ → ℕ
clamp width column = cond (leb column (width - 1)) column 0

clamp_low : (width column : ℕ) → clamp width column ≤ width - 1
clamp_low width column = by_test (leb column (width - 1)) refl where
  by_test : (b : Bool) → leb column (width - 1) ≡ b → cond b column 0 ≤ width - 1
  by_test true e = leb-true column (width - 1) e
  by_test false e = omega arith

clamp_in : (width column : ℕ) → column ≤ width - 1 → clamp width column ≡ column
clamp_in width column h = ap (λ (b : Bool). cond b column 0) (le-leb column (width - 1) h)

abbrev clamped_port : KeyedPort → KeyedPort
clamped_port p = record { column = clamp p.width p.column; width = p.width }

-- ports of these types
abbrev AreTyped : List KeyedPort → List (List FieldType) → Type 0
AreTyped [] [] = Unit {0}
AreTyped [] (t ∷ types) = ⊥
AreTyped (p ∷ ports) [] = ⊥
AreTyped (p ∷ ports) (t ∷ types) = (p.width ≡ length t) × AreTyped ports types

one_same : (p : KeyedPort) → p.column < p.width → clamped_port p ≡ p
one_same p h = ap (λ (n : ℕ). let made : KeyedPort = record { column = n; width = p.width } in made) (clamp_in p.width p.column (omega arith))

-- ports whose columns are theirs keep them
same_within : (ports : List KeyedPort) → AreInWidth ports → map clamped_port ports ≡ ports
same_within [] within = refl
same_within (p ∷ ports) within = ap (λ (q : KeyedPort). q ∷ map clamped_port ports) (one_same p within.0) ∙ ap (λ (qs : List KeyedPort). p ∷ qs) (same_within ports within.1)

have_clamped : (width column : ℕ) (ports : List KeyedPort) → AllByRecursion (λ (p : KeyedPort). p.width ≡ width) ports → HaveColumn column ports → HaveColumn (clamp width column) (map clamped_port ports)
have_clamped width column [] wide have = tt
have_clamped width column (p ∷ ports) wide have = (ap (λ (w : ℕ). clamp w p.column) wide.0 ∙ ap (clamp width) have.0, have_clamped width column ports wide.1 have.1)

one_wide : (ports : List KeyedPort) (types : List (List FieldType)) → AreTyped ports types → length types ≤ 1 → AllByRecursion (λ (p : KeyedPort). p.width ≡ length (first_port types)) ports
one_wide [] types typed one = tt
one_wide (p ∷ ports) [] typed one = absurd typed
one_wide (p ∷ []) (t ∷ types) typed one = (typed.0, tt)
one_wide (p ∷ q ∷ ports) (t ∷ []) typed one = absurd typed.1
one_wide (p ∷ q ∷ ports) (t ∷ u ∷ types) typed one = absurd (omega arith)

alike_wide : (first : List FieldType) (ports : List KeyedPort) (types : List (List FieldType)) → AreTyped ports types → All (λ (t : List FieldType). t ≡ first) types → AllByRecursion (λ (p : KeyedPort). p.width ≡ length first) ports
alike_wide first [] types typed alike = tt
alike_wide first (p ∷ ports) [] typed alike = absurd typed
alike_wide first (p ∷ ports) (t ∷ types) typed alike = (
  typed.0 ∙ ap (λ (ts : List FieldType). length ts) (All-head (λ (x : List FieldType). x ≡ first) t types alike),
  alike_wide first ports types typed.1 (All-tail (λ (x : List FieldType). x ≡ first) t types alike),
)

-- a place of ports is one of their columns
places_below : (first column : ℕ) (ports : List KeyedPort) (types : List (List FieldType)) → AreTyped ports types → AreInWidth ports → IsOneOf column (key_places first ports) → column < first + length (all_ports types)
places_below first column [] types typed within h = cc
places_below first column (p ∷ ports) [] typed within h = absurd typed
places_below first column (p ∷ ports) (t ∷ types) typed within h =
    let wide = typed.0 in
    let inside = within.0 in
    let all = length-append t (all_ports types) in
    elim (or_cases (first + p.column == column) (list_any (λ (x : ℕ). x == column) (key_places (first + p.width) ports)) h) [
      | inl here ↦ let same = eqb-true (first + p.column) column here in omega arith
      | inr later ↦ let below = places_below (first + p.width) column ports types typed.1 within.1 later in omega arith
    ]

below_at : (xs : List ℕ) (width i x : ℕ) → AllByRecursion (λ (k : ℕ). k < width) xs → slice_get xs i ≡ Some x → x < width
below_at [] width i x all e = cc
below_at (k ∷ xs) width zero x all e = let same : k ≡ x = cc in let below = all.0 in omega arith
below_at (k ∷ xs) width (suc i) x all e = below_at xs width i x all.1 e

rename_clamped : (keep : List ℕ) (ports : List KeyedPort) (types : List (List FieldType)) (own column : ℕ) → AreTyped ports types → length types ≤ 1 → keep_fault_of keep (all_ports types) ≡ None → length keep ≤ own → AreRenamed keep ports column
    → AreRenamed keep (map clamped_port ports) (clamp own column)
rename_clamped keep [] types own column typed one fits wide renamed = tt
rename_clamped keep (p ∷ ports) [] own column typed one fits wide renamed = absurd typed
rename_clamped keep (p ∷ q ∷ ports) (t ∷ []) own column typed one fits wide renamed = absurd typed.1
rename_clamped keep (p ∷ ports) (t ∷ u ∷ types) own column typed one fits wide renamed = absurd (omega arith)
rename_clamped keep (p ∷ []) (t ∷ []) own column typed one fits wide renamed =
    let e = renamed.0 in
    let port = typed.0 in
    let place = slice_get_within keep column p.column e in
    let inside = below_at keep (length (all_ports (t ∷ []))) column p.column (columns_there keep (all_ports (t ∷ [])) fits) e in
    let all = length-append t [] in
    (ap (slice_get keep) (clamp_in own column (omega arith)) ∙ (e ∙ ap (λ (n : ℕ). Some n) (sym (clamp_in p.width p.column (omega arith)))), tt)

join_clamped : (tests : List Test) (ports : List KeyedPort) (types : List (List FieldType)) (own : List FieldType) (column : ℕ) → AreTyped ports types → own ≡ all_ports types → IsTiedJoin tests ports column → IsTiedJoin tests (map clamped_port ports) (clamp (length own) column)
join_clamped tests ports types own column typed is join =
    let below = places_below 0 column ports types typed join.within join.column_is in
    let same = ap (λ (ts : List FieldType). length ts) is in
    subst (λ (ps : List KeyedPort). IsTiedJoin tests ps (clamp (length own) column)) (sym (same_within ports join.within))
    (subst (λ (c : ℕ). IsTiedJoin tests ports c) (sym (clamp_in (length own) column (omega arith))) join)

first_clamped : (tests : List Test) (ports : List KeyedPort) (types : List (List FieldType)) (own : List FieldType) (column : ℕ) → AreTyped ports types → own ≡ first_port types → IsTiedFirst tests ports column → IsTiedFirst tests (map clamped_port ports) (clamp (length own) column)
first_clamped tests [] types own column typed is first = record { within = tt; tied = tt; column_is = tt }
first_clamped tests (p ∷ ports) [] own column typed is first = absurd typed
first_clamped tests (p ∷ ports) (t ∷ types) own column typed is first =
    let same = ap (λ (ts : List FieldType). length ts) is in
    let wide = typed.0 in
    let inside = first.within.0 in
    let here = first.column_is.0 in
    subst (λ (ps : List KeyedPort). IsTiedFirst tests ps (clamp (length own) column)) (sym (same_within (p ∷ ports) first.within))
    (subst (λ (c : ℕ). IsTiedFirst tests (p ∷ ports) c) (sym (clamp_in (length own) column (omega arith))) first)

repeated_typed : (number : ℕ) (p : KeyedPort) (t : List FieldType) → p.width ≡ length t → AreTyped (replicate number p) (replicate number t)
repeated_typed zero p t e = tt
repeated_typed (suc number) p t e = (e, repeated_typed number p t e)

repeated_within : (number : ℕ) (p : KeyedPort) → 1 ≤ number → AreInWidth (replicate number p) → p.column < p.width
repeated_within zero p some within = absurd (omega arith)
repeated_within (suc number) p some within = within.0

all_within : (p : KeyedPort) (ports : List KeyedPort) → p.column < p.width → AllByRecursion (λ (other : KeyedPort). other ≡ p) ports → AreInWidth ports
all_within p [] within alike = tt
all_within p (q ∷ ports) within alike = (subst (λ (x : KeyedPort). x.column < x.width) (sym alike.0) within, all_within p ports within alike.1)

repeat_clamped : (number : ℕ) (tests : List Test) (ports : List KeyedPort) (types : List (List FieldType)) (own : List FieldType) (column : ℕ) → AreTyped ports types → 1 ≤ number → own ≡ all_ports (like_first number types) → AreOneKind ports → IsTiedJoin tests (first_repeated number ports) column
    → AreOneKind (map clamped_port ports) × IsTiedJoin tests (first_repeated number (map clamped_port ports)) (clamp (length own) column)
repeat_clamped number tests [] types own column typed some is alike join = let none = join.column_is in cc
repeat_clamped number tests (p ∷ ports) [] own column typed some is alike join = absurd typed
repeat_clamped number tests (p ∷ ports) (t ∷ types) own column typed some is alike join =
    let within = repeated_within number p some join.within in
    let below = places_below 0 column (replicate number p) (replicate number t) (repeated_typed number p t typed.0) join.within join.column_is in
    let same = ap (λ (ts : List FieldType). length ts) is in
    let unchanged = same_within (p ∷ ports) (within, all_within p ports within alike) in
    subst (λ (ps : List KeyedPort). AreOneKind ps × IsTiedJoin tests (first_repeated number ps) (clamp (length own) column)) (sym unchanged)
    (alike, subst (λ (c : ℕ). IsTiedJoin tests (replicate number p) c) (sym (clamp_in (length own) column (omega arith))) join)

-- what makes its rows of one row each
at_one : (ports : List KeyedPort) (types : List (List FieldType)) (own : List FieldType) (column : ℕ) → AreTyped ports types → length types ≤ 1 → own ≡ first_port types → HaveColumn column ports → HaveColumn (clamp (length own) column) (map clamped_port ports)
at_one ports types own column typed one is have =
    subst (λ (ts : List FieldType). HaveColumn (clamp (length ts) column) (map clamped_port ports)) (sym is) (have_clamped (length (first_port types)) column ports (one_wide ports types typed one) have)

-- a node that keeps the key keeps it within the widths
keeps_clamped : (what : NodeKind) (ports : List KeyedPort) (types : List (List FieldType)) (own : List FieldType) (column : ℕ) → AreTyped ports types → length types ≤ (operator_row (operator_of_kind what)).most → FitsPorts what types → HasTypes what types own → KeepsKey what ports column
    → KeepsKey what (map clamped_port ports) (clamp (length own) column)
keeps_clamped (kind.Source file) ports types own column typed most fits is keeps = tt
keeps_clamped (kind.Select tests) ports types own column typed most fits is keeps = at_one ports types own column typed most is keeps
keeps_clamped (kind.Project keep) ports types own column typed most fits is keeps =
    let wide = ap (λ (ts : List FieldType). length ts) is in
    let long = kept_length keep (all_ports types) (length (all_ports types)) refl (columns_there keep (all_ports types) fits) in
    rename_clamped keep ports types (length own) column typed most fits (omega arith) keeps
keeps_clamped kind.Union ports types own column typed most fits is keeps =
    subst (λ (ts : List FieldType). HaveColumn (clamp (length ts) column) (map clamped_port ports)) (sym is) (have_clamped (length (first_port types)) column ports (alike_wide (first_port types) ports types typed fits) keeps)
keeps_clamped (kind.Join tests) ports types own column typed most fits is keeps = join_clamped tests ports types own column typed is keeps
keeps_clamped (kind.Window width) ports types own column typed most fits is keeps = at_one ports types own column typed most is keeps
keeps_clamped (kind.Shift by) ports types own column typed most fits is keeps = at_one ports types own column typed most is keeps
keeps_clamped (kind.Hop every width) ports types own column typed most fits is keeps = at_one ports types own column typed most is keeps
keeps_clamped kind.Starts ports types own column typed most fits is keeps = at_one ports types own column typed most is keeps
keeps_clamped kind.Ends ports types own column typed most fits is keeps = at_one ports types own column typed most is keeps
keeps_clamped (kind.Group keys count sums least greatest) ports types own column typed most fits is keeps =
    let wide = ap (λ (ts : List FieldType). length ts) is in
    let long = kept_length keys (all_ports types) (length (all_ports types)) refl (columns_there keys (all_ports types) fits.0) in
    let rest = count_types count ++ (map (λ (k : ℕ). field_type.Number) sums ++ (kept_columns least (all_ports types) ++ kept_columns greatest (all_ports types))) in
    let more : length (group_types keys count sums least greatest (all_ports types)) ≡ length (kept_columns keys (all_ports types)) + length rest = length-append (kept_columns keys (all_ports types)) rest in
    rename_clamped keys ports types (length own) column typed most fits.0 (omega arith) keeps
keeps_clamped (kind.Sequence scope tests) ports types own column typed most fits is keeps = join_clamped tests ports types own column typed is keeps
keeps_clamped (kind.Unless scope hold tests) ports types own column typed most fits is keeps = first_clamped tests ports types own column typed is keeps
keeps_clamped (kind.AtLeast number scope tests) ports types own column typed most fits is keeps = repeat_clamped number tests ports types own column typed fits.0.0 is keeps.0 keeps.1
keeps_clamped (kind.Except tests) ports types own column typed most fits is keeps = first_clamped tests ports types own column typed is keeps
keeps_clamped kind.Output ports types own column typed most fits is keeps = at_one ports types own column typed most is keeps

-- ---- the columns of a plan

-- the columns of the nodes from a place on
abbrev clamped : List ℕ → ℕ → List PlanNode → List ℕ
clamped columns place [] = []
clamped columns place (n ∷ nodes) = clamp (length n.types.items) (column_at columns place) ∷ clamped columns (place + 1) nodes

clamped_count : (columns : List ℕ) (place : ℕ) (nodes : List PlanNode) → length (clamped columns place nodes) ≡ length nodes
clamped_count columns place [] = refl
clamped_count columns place (n ∷ nodes) = ap (λ (k : ℕ). suc k) (clamped_count columns (place + 1) nodes)

clamped_at : (columns : List ℕ) (place k : ℕ) (nodes : List PlanNode) → k < length nodes → column_at (clamped columns place nodes) k ≡ clamp (width_at nodes k) (column_at columns (place + k))
clamped_at columns place k [] h = absurd (omega arith)
clamped_at columns place zero (n ∷ nodes) h = ap (λ (p : ℕ). clamp (length n.types.items) (column_at columns p)) (let e : place ≡ place + 0 = omega arith in e)
clamped_at columns place (suc k) (n ∷ nodes) h = clamped_at columns (place + 1) k nodes (omega arith) ∙ ap (λ (p : ℕ). clamp (width_at nodes k) (column_at columns p)) (let e : (place + 1) + k ≡ place + suc k = omega arith in e)

abbrev within_all : List ℕ → List PlanNode → List ℕ
within_all columns nodes = clamped columns 0 nodes

is_clamped : (columns : List ℕ) (nodes : List PlanNode) (k : ℕ) → k < length nodes → column_at (within_all columns nodes) k ≡ clamp (width_at nodes k) (column_at columns k)
is_clamped columns nodes k h = clamped_at columns 0 k nodes h ∙ ap (λ (p : ℕ). clamp (width_at nodes k) (column_at columns p)) (let e : 0 + k ≡ k = omega arith in e)

widths_clamped : (columns : List ℕ) (nodes : List PlanNode) → AreInWidths (within_all columns nodes) nodes
widths_clamped columns nodes place h = subst (λ (c : ℕ). c ≤ width_at nodes place - 1) (sym (is_clamped columns nodes place h)) (clamp_low (width_at nodes place) (column_at columns place))

typed_ports : (columns : List ℕ) (before : List PlanNode) (inputs : List ℕ) → AreTyped (map (λ (i : ℕ). let port : KeyedPort = record { column = column_at columns i; width = width_at before i } in port) inputs) (map (types_of (map node_of before)) inputs)
typed_ports columns before [] = tt
typed_ports columns before (i ∷ inputs) = (refl, typed_ports columns before inputs)

ports_clamped : (columns : List ℕ) (nodes : List PlanNode) (place : ℕ) (inputs : List ℕ) → place < length nodes → All (λ (i : ℕ). i < place) inputs
    → map clamped_port (map (λ (i : ℕ). let port : KeyedPort = record { column = column_at columns i; width = width_at (take place nodes) i } in port) inputs) ≡ map (λ (i : ℕ). let port : KeyedPort = record { column = column_at (within_all columns nodes) i; width = width_at (take place nodes) i } in port) inputs
ports_clamped columns nodes place [] within early = refl
ports_clamped columns nodes place (i ∷ inputs) within early =
    let first = All-head (λ (k : ℕ). k < place) i inputs early in
    let rest = ports_clamped columns nodes place inputs within (All-tail (λ (k : ℕ). k < place) i inputs early) in
    let w = width_at (take place nodes) i in
    let same : clamp w (column_at columns i) ≡ column_at (within_all columns nodes) i = ap (λ (v : ℕ). clamp v (column_at columns i)) (width_take nodes place i first) ∙ sym (is_clamped columns nodes i (omega arith)) in
    ap (λ (n : ℕ). let port : KeyedPort = record { column = n; width = w } in port ∷ map clamped_port (map (λ (k : ℕ). let other : KeyedPort = record { column = column_at columns k; width = width_at (take place nodes) k } in other) inputs)) same
    ∙ ap (λ (ps : List KeyedPort). let port : KeyedPort = record { column = column_at (within_all columns nodes) i; width = w } in port ∷ ps) rest

own_width : (nodes : List PlanNode) (place : ℕ) (n : PlanNode) → slice_get nodes place ≡ Some n → width_at nodes place ≡ length n.types.items
own_width [] place n e = cc
own_width (m ∷ nodes) zero n e = let same : m ≡ n = cc in ap (λ (x : PlanNode). length x.types.items) same
own_width (m ∷ nodes) (suc place) n e = own_width nodes place n e

at_clamped : (columns : List ℕ) (nodes : List PlanNode) (place : ℕ) → AreNodes [] (map node_of nodes) → place < length nodes → KeepsKeyAt columns nodes place → KeepsKeyAt (within_all columns nodes) nodes place
at_clamped columns nodes place are within keeps =
    let found = there nodes place within in
    let n = found.0 in
    let is : IsNode (map node_of (take place nodes)) (node_of n) = subst (λ (x : PlanNode). IsNode (map node_of (take place nodes)) (node_of x)) (get_or_from_slice_get nodes place n n found.1) (node_is nodes place n are within) in
    let early : All (λ (i : ℕ). i < place) n.inputs.items =
    All-from_get_or (λ (i : ℕ). i < place) n.inputs.items 0
    (λ k h. let input = All-get_or (λ (i : ℕ). i < length (take place nodes)) n.inputs.items k 0 h (inputs_are (take place nodes) n is) in omega (arith, input, length-take place nodes)) in
    let types = port_types (map node_of (take place nodes)) (node_of n) in
    let keep : KeepsKey n.kind (keyed_ports columns (take place nodes) n) (column_at columns place) = if_some (λ (x : PlanNode). KeepsKey x.kind (keyed_ports columns (take place nodes) x) (column_at columns place)) (slice_get nodes place) n found.1 keeps in
    let most = is.most_ports in
    let few : length types ≤ (operator_row (operator_of_kind n.kind)).most = omega (arith, most, length-map n.inputs.items (types_of (map node_of (take place nodes)))) in
    let made = keeps_clamped n.kind (keyed_ports columns (take place nodes) n) types n.types.items (column_at columns place) (typed_ports columns (take place nodes) n.inputs.items) few is.fits is.types keep in
    let own : clamp (length n.types.items) (column_at columns place) ≡ column_at (within_all columns nodes) place = ap (λ (w : ℕ). clamp w (column_at columns place)) (sym (own_width nodes place n found.1)) ∙ sym (is_clamped columns nodes place within) in
    subst (λ (o : Option PlanNode). IfSome o (λ (x : PlanNode). KeepsKey x.kind (keyed_ports (within_all columns nodes) (take place nodes) x) (column_at (within_all columns nodes) place))) (sym found.1)
    (subst (λ (c : ℕ). KeepsKey n.kind (keyed_ports (within_all columns nodes) (take place nodes) n) c) own
    (subst (λ (ps : List KeyedPort). KeepsKey n.kind ps (clamp (length n.types.items) (column_at columns place))) (ports_clamped columns nodes place n.inputs.items within early) made))

-- the columns within the widths are kept by all nodes, where some are
pub keyed_within : (columns : List ℕ) (nodes : List PlanNode) → AreNodes [] (map node_of nodes) → AreKeyed columns [] nodes → AreKeyed (within_all columns nodes) [] nodes
keyed_within columns nodes are keyed = keyed_from_each (within_all columns nodes) nodes (λ place h. at_clamped columns nodes place are h (keyed_at columns nodes place keyed h))

-- where no columns within the widths are kept, none are, and one of the nodes is told
pub unkeyed : (own nodes : List PlanNode) (node : ℕ) → nodes ≡ own → AreNodes [] (map node_of own) → ((columns : List ℕ) → AreInWidths columns nodes → AreKeyed columns [] nodes → ⊥) → node < length nodes → IsUnkeyed own node
unkeyed own nodes node same are none told =
    let none_own = subst (λ (ns : List PlanNode). (columns : List ℕ) → AreInWidths columns ns → AreKeyed columns [] ns → ⊥) same none in
    record {
      none = λ columns keyed. none_own (within_all columns own) (widths_clamped columns own) (keyed_within columns own are keyed);
      told = subst (λ (ns : List PlanNode). node < length ns) same told;
    }
