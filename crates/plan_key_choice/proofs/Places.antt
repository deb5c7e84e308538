-- The nodes of a plan one by one: what each keeps, and how narrow its ports are.
use Rattle.std.proofs.Common.{◌≡◌, ℕ, zero, suc, ◌+◌, ◌-◌, ◌<◌, ◌≤◌, arith, List, [], ◌∷◌, ◌++◌, length, get_or, take, Bool, true, false, cond, leb, refl, ap, subst, sym, ◌∙◌, append_assoc, lit≤}
use Rattle.std.specs.Prelude.{◌≢◌, Option, Some, None, IfSome, IfOk, Result, Ok, Err, All, map}
use Rattle.std.specs.List.{slice_get}
use Rattle.std.proofs.lemmas.Bool.{leb-true, le-leb}
use Rattle.std.proofs.lemmas.List.{append-nil, length-append, length-map, length-take}
use Rattle.std.proofs.lemmas.List.Elements.{All-get_or, All-from_get_or, All-head, All-tail, All-map}
use Rattle.std.proofs.lemmas.Option.{slice_get-get_or}
use Rattle.cedr_plan.specs.declared.plan.NodeKind.{NodeKind}
use Rattle.cedr_plan.specs.declared.plan.NodeKind.TheVariants as kind
use Rattle.cedr_plan.specs.declared.plan.PlanNode.{PlanNode}
use Rattle.cedr_plan.specs.Drawn.{Node, node_of}
use Rattle.cedr_plan.specs.Nodes.{types_of}
use Rattle.cedr_plan.specs.Operators.{operator_row}
use Rattle.cedr_plan.specs.Rules.{IsNode, AreNodes, FitsPorts, operator_of_kind, port_types}
use Rattle.cedr_base.specs.declared.field.FieldType.{FieldType}
use Rattle.cedr_plan.proofs.PlaceLemmas.{node_is, inputs_are}
use Rattle.plan_keys.specs.Keys.{KeyedPort, KeepsKey, keyed_ports, AreKeyed, column_at, width_at}
use Rattle.plan_key_choice.specs.declared.range.RangedPort.{RangedPort}
use Rattle.plan_key_choice.specs.Ranges.{column_range, ranged_port, may_keep, IsNarrow, RepeatsFew}
use Rattle.plan_key_choice.specs.Choices.{AreInWidths, KeepsKeyAt}
use Rattle.plan_key_choice.specs.Partial.{chosen_at, chosen_columns, HasChosen, AreAllChosen}
use Rattle.plan_key_choice.proofs.Admitted.{IsAdmitted, AreAdmitted, keeps_may}
use Rattle.plan_key_choice.proofs.Pinned.{IsPinned, ArePinned, may_keeps}

-- ---- what each node keeps

-- a node at a place keeps the key, behind these nodes
abbrev KeepsBehind : List ℕ → List PlanNode → ℕ → PlanNode → Type 0
KeepsBehind columns before place n = KeepsKey n.kind (keyed_ports columns before n) (column_at columns place)

-- the node that stands so many further on
abbrev KeepsOn : List ℕ → List PlanNode → List PlanNode → ℕ → Type 0
KeepsOn columns before nodes k = IfSome (slice_get nodes k) (KeepsBehind columns (before ++ take k nodes) (length before + k))

at_first : (before : List PlanNode) → length before + 0 ≡ length before
at_first before = omega arith

at_next : (before : List PlanNode) (n : PlanNode) (k : ℕ) → length (before ++ n ∷ []) + k ≡ length before + suc k
at_next before n k = omega (arith, length-append before (n ∷ []))

keyed_on : (columns : List ℕ) (before nodes : List PlanNode) (k : ℕ) → AreKeyed columns before nodes → k < length nodes → KeepsOn columns before nodes k
keyed_on columns before [] k keyed within = absurd (omega arith)
keyed_on columns before (n ∷ nodes) zero keyed within =
    subst (λ (b : List PlanNode). KeepsBehind columns b (length before + 0) n) (sym (append-nil before)) (subst (λ (p : ℕ). KeepsBehind columns before p n) (sym (at_first before)) keyed.0)
keyed_on columns before (n ∷ nodes) (suc k) keyed within =
    subst (λ (b : List PlanNode). IfSome (slice_get nodes k) (KeepsBehind columns b (length before + suc k))) (append_assoc before (n ∷ []) (take k nodes))
    (subst (λ (p : ℕ). IfSome (slice_get nodes k) (KeepsBehind columns ((before ++ n ∷ []) ++ take k nodes) p)) (at_next before n k) (keyed_on columns (before ++ n ∷ []) nodes k keyed.1 (omega arith)))

from_each : (columns : List ℕ) (before nodes : List PlanNode) → ((k : ℕ) → k < length nodes → KeepsOn columns before nodes k) → AreKeyed columns before nodes
from_each columns before [] each = tt
from_each columns before (n ∷ nodes) each = (
  subst (λ (b : List PlanNode). KeepsBehind columns b (length before) n) (append-nil before) (subst (λ (p : ℕ). KeepsBehind columns (before ++ []) p n) (at_first before) (each 0 (omega arith))),
  from_each columns (before ++ n ∷ []) nodes
      (λ k h. subst (λ (b : List PlanNode). IfSome (slice_get nodes k) (KeepsBehind columns b (length (before ++ n ∷ []) + k))) (sym (append_assoc before (n ∷ []) (take k nodes)))
      (subst (λ (p : ℕ). IfSome (slice_get nodes k) (KeepsBehind columns (before ++ n ∷ take k nodes) p)) (sym (at_next before n k)) (each (suc k) (omega arith)))),
)

from_none : (place : ℕ) → 0 + place ≡ place
from_none place = omega arith

-- each node of keyed nodes keeps the key
pub keyed_at : (columns : List ℕ) (nodes : List PlanNode) (place : ℕ) → AreKeyed columns [] nodes → place < length nodes → KeepsKeyAt columns nodes place
keyed_at columns nodes place keyed within = subst (λ (p : ℕ). IfSome (slice_get nodes place) (KeepsBehind columns (take place nodes) p)) (from_none place) (keyed_on columns [] nodes place keyed within)

-- and nodes are keyed where each keeps the key
pub keyed_from_each : (columns : List ℕ) (nodes : List PlanNode) → ((place : ℕ) → place < length nodes → KeepsKeyAt columns nodes place) → AreKeyed columns [] nodes
keyed_from_each columns nodes each = from_each columns [] nodes (λ k h. subst (λ (p : ℕ). IfSome (slice_get nodes k) (KeepsBehind columns (take k nodes) p)) (sym (from_none k)) (each k h))

-- ---- widths

-- nodes before a place have the widths of the plan
pub width_take : (nodes : List PlanNode) (place i : ℕ) → i < place → width_at (take place nodes) i ≡ width_at nodes i
width_take nodes zero i h = absurd (omega arith)
width_take [] (suc place) i h = refl
width_take (n ∷ nodes) (suc place) zero h = refl
width_take (n ∷ nodes) (suc place) (suc i) h = width_take nodes place i (omega arith)

width_few : (earlier : List Node) (nodes : List PlanNode) (i : ℕ) → AreNodes earlier (map node_of nodes) → width_at nodes i ≤ 16
width_few earlier [] i are = lit≤ tt
width_few earlier (n ∷ nodes) zero are = are.0.width
width_few earlier (n ∷ nodes) (suc i) are = width_few (earlier ++ node_of n ∷ []) nodes i are.1

-- ---- ports of ranges

one_admitted : (c : ℕ) (o : Option ℕ) (w : ℕ) → IfSome o (λ (k : ℕ). c ≡ k) → c ≤ w - 1 → IsAdmitted (record { columns = column_range o w; width = w }) (record { column = c; width = w })
one_admitted c None w is within = record { columns = record { least = omega arith; most = within }; inside = omega arith; width = refl }
one_admitted c (Some k) w is within = in_or_out (leb k (w - 1)) refl where
  in_or_out : (b : Bool) → leb k (w - 1) ≡ b → IsAdmitted (record { columns = cond b (record { least = k; most = k }) (record { least = 0; most = w - 1 }); width = w }) (record { column = c; width = w })
  in_or_out true e = let fits = leb-true k (w - 1) e in record { columns = record { least = omega (arith, is); most = omega (arith, is) }; inside = fits; width = refl }
  in_or_out false e = record { columns = record { least = omega arith; most = within }; inside = omega arith; width = refl }

ports_admitted : (choice : List (Option ℕ)) (columns : List ℕ) (before : List PlanNode) (inputs : List ℕ) → HasChosen choice columns → All (λ (i : ℕ). column_at columns i ≤ width_at before i - 1) inputs
    → AreAdmitted (map (ranged_port choice before) inputs) (map (λ (i : ℕ). let port : KeyedPort = record { column = column_at columns i; width = width_at before i } in port) inputs)
ports_admitted choice columns before [] extends within = tt
ports_admitted choice columns before (i ∷ inputs) extends within = (
  one_admitted (column_at columns i) (chosen_at choice i) (width_at before i) (extends i) (All-head (λ (i : ℕ). column_at columns i ≤ width_at before i - 1) i inputs within),
  ports_admitted choice columns before inputs extends (All-tail (λ (i : ℕ). column_at columns i ≤ width_at before i - 1) i inputs within),
)

one_pinned : (c : ℕ) (o : Option ℕ) (w : ℕ) → o ≡ Some c → c ≤ w - 1 → IsPinned (record { columns = column_range o w; width = w }) (record { column = c; width = w })
one_pinned c o w is within =
    subst (λ (x : Option ℕ). IsPinned (record { columns = column_range x w; width = w }) (record { column = c; width = w })) (sym is)
    (subst (λ (b : Bool). IsPinned (record { columns = cond b (record { least = c; most = c }) (record { least = 0; most = w - 1 }); width = w }) (record { column = c; width = w })) (sym (le-leb c (w - 1) within))
    (record { columns = record { least = omega arith; most = omega arith }; width = refl }))

-- a column that is chosen is that of the columns
pub chosen_is : (choice : List (Option ℕ)) (i : ℕ) → chosen_at choice i ≢ None → chosen_at choice i ≡ Some (column_at (chosen_columns choice) i)
chosen_is [] i there = absurd (there refl)
chosen_is (None ∷ choice) zero there = absurd (there refl)
chosen_is (Some c ∷ choice) zero there = refl
chosen_is (o ∷ choice) (suc i) there = chosen_is choice i there

-- the column of a place is chosen, and is one of its node's
abbrev IsPinnedAt : List (Option ℕ) → List PlanNode → ℕ → Type 0
IsPinnedAt choice before i = (chosen_at choice i ≢ None) × (column_at (chosen_columns choice) i ≤ width_at before i - 1)

ports_pinned : (choice : List (Option ℕ)) (before : List PlanNode) (inputs : List ℕ) → All (IsPinnedAt choice before) inputs
    → ArePinned (map (ranged_port choice before) inputs) (map (λ (i : ℕ). let port : KeyedPort = record { column = column_at (chosen_columns choice) i; width = width_at before i } in port) inputs)
ports_pinned choice before [] pinned = tt
ports_pinned choice before (i ∷ inputs) pinned =
    let here = All-head (IsPinnedAt choice before) i inputs pinned in
    (one_pinned (column_at (chosen_columns choice) i) (chosen_at choice i) (width_at before i) (chosen_is choice i here.0) here.1, ports_pinned choice before inputs (All-tail (IsPinnedAt choice before) i inputs pinned))

narrow_range : (o : Option ℕ) (w : ℕ) → w ≤ 16 → IsNarrow (record { columns = column_range o w; width = w })
narrow_range None w few = record { columns = record { least = omega arith; most = omega arith }; width = few }
narrow_range (Some k) w few = in_or_out (leb k (w - 1)) refl where
  in_or_out : (b : Bool) → leb k (w - 1) ≡ b → IsNarrow (record { columns = cond b (record { least = k; most = k }) (record { least = 0; most = w - 1 }); width = w })
  in_or_out true e = let fits = leb-true k (w - 1) e in record { columns = record { least = omega arith; most = omega arith }; width = few }
  in_or_out false e = record { columns = record { least = omega arith; most = omega arith }; width = few }

-- ---- a node of a plan

most_four : (what : NodeKind) → (operator_row (operator_of_kind what)).most ≤ 4
most_four (kind.Source file) = lit≤ tt
most_four (kind.Select tests) = lit≤ tt
most_four (kind.Project keep) = lit≤ tt
most_four kind.Union = lit≤ tt
most_four (kind.Join tests) = lit≤ tt
most_four (kind.Window width) = lit≤ tt
most_four (kind.Shift by) = lit≤ tt
most_four (kind.Hop every width) = lit≤ tt
most_four kind.Starts = lit≤ tt
most_four kind.Ends = lit≤ tt
most_four (kind.Group keys count sums least greatest) = lit≤ tt
most_four (kind.Sequence scope tests) = lit≤ tt
most_four (kind.Unless scope hold tests) = lit≤ tt
most_four (kind.AtLeast number scope tests) = lit≤ tt
most_four (kind.Except tests) = lit≤ tt
most_four kind.Output = lit≤ tt

few_repeated : (what : NodeKind) (ports : List (List FieldType)) → length ports ≤ 4 → FitsPorts what ports → RepeatsFew what
few_repeated (kind.Source file) ports few fits = tt
few_repeated (kind.Select tests) ports few fits = tt
few_repeated (kind.Project keep) ports few fits = tt
few_repeated kind.Union ports few fits = tt
few_repeated (kind.Join tests) ports few fits = tt
few_repeated (kind.Window width) ports few fits = tt
few_repeated (kind.Shift by) ports few fits = tt
few_repeated (kind.Hop every width) ports few fits = tt
few_repeated kind.Starts ports few fits = tt
few_repeated kind.Ends ports few fits = tt
few_repeated (kind.Group keys count sums least greatest) ports few fits = tt
few_repeated (kind.Sequence scope tests) ports few fits = tt
few_repeated (kind.Unless scope hold tests) ports few fits = tt
few_repeated (kind.AtLeast number scope tests) ports few fits = let counted = fits.0.1 in omega (arith, counted, few)
few_repeated (kind.Except tests) ports few fits = tt
few_repeated kind.Output ports few fits = tt

-- what holds of an element that is there
pub if_some : {X : Type 0} (P : X → Type 0) (o : Option X) (x : X) → o ≡ Some x → IfSome o P → P x
if_some P None x e h = cc
if_some P (Some y) x e h = subst P (let same : y ≡ x = cc in same) h

module _ (nodes : List PlanNode) (are : AreNodes [] (map node_of nodes)) (place : ℕ) (n : PlanNode) (within : place < length nodes) (is : n ≡ get_or nodes place n) where
  abbrev ranges : List (Option ℕ) → List RangedPort
  ranges choice = map (ranged_port choice (take place nodes)) n.inputs.items

  node_there : IsNode (map node_of (take place nodes)) (node_of n)
  node_there = subst (λ (x : PlanNode). IsNode (map node_of (take place nodes)) (node_of x)) (sym is) (node_is nodes place n are within)

  -- all that it reads stands before it
  pub earlier : All (λ (i : ℕ). i < place) n.inputs.items
  earlier =
      All-from_get_or (λ (i : ℕ). i < place) n.inputs.items 0
      (λ k h. let there = All-get_or (λ (i : ℕ). i < length (take place nodes)) n.inputs.items k 0 h (inputs_are (take place nodes) n node_there) in omega (arith, there, length-take place nodes))

  -- it reads few
  pub few_inputs : length n.inputs.items ≤ 4
  few_inputs = let most = node_there.most_ports in omega (arith, most, most_four n.kind)

  -- what it reads on a port stands before it
  pub input_before : (port : ℕ) (input : Option ℕ) → input ≡ slice_get n.inputs.items port → IfSome input (λ (i : ℕ). i < place)
  input_before port input e = subst (λ (o : Option ℕ). IfSome o (λ (i : ℕ). i < place)) (sym e) (each n.inputs.items port earlier) where
    each : (xs : List ℕ) (k : ℕ) → All (λ (i : ℕ). i < place) xs → IfSome (slice_get xs k) (λ (i : ℕ). i < place)
    each [] k all = tt
    each (x ∷ xs) zero all = All-head (λ (i : ℕ). i < place) x xs all
    each (x ∷ xs) (suc k) all = each xs k (All-tail (λ (i : ℕ). i < place) x xs all)

  -- and the port is one of four
  pub input_few : (port : ℕ) (input : Option ℕ) → input ≡ slice_get n.inputs.items port → IfSome input (λ (i : ℕ). port < 4)
  input_few port input e = subst (λ (o : Option ℕ). IfSome o (λ (i : ℕ). port < 4)) (sym e) (each n.inputs.items port few_inputs) where
    each : (xs : List ℕ) (k : ℕ) → length xs ≤ 4 → IfSome (slice_get xs k) (λ (i : ℕ). k < 4)
    each xs k few = inside xs k 4 few where
      inside : (ys : List ℕ) (m most : ℕ) → length ys ≤ most → IfSome (slice_get ys m) (λ (i : ℕ). m < most)
      inside [] m most h = tt
      inside (y ∷ ys) zero most h = omega arith
      inside (y ∷ ys) (suc m) zero h = absurd (omega arith)
      inside (y ∷ ys) (suc m) (suc most) h = further (slice_get ys m) (inside ys m most (omega arith)) where
        further : (o : Option ℕ) → IfSome o (λ (i : ℕ). m < most) → IfSome o (λ (i : ℕ). suc m < suc most)
        further None g = tt
        further (Some i) g = omega arith

  -- few ports
  pub few_ports : (choice : List (Option ℕ)) → length (ranges choice) ≤ 4
  few_ports choice = omega (arith, few_inputs, length-map n.inputs.items (ranged_port choice (take place nodes)))

  -- of few columns
  pub narrow_ports : (choice : List (Option ℕ)) → All IsNarrow (ranges choice)
  narrow_ports choice =
      All-map IsNarrow (ranged_port choice (take place nodes)) n.inputs.items
      (All-from_get_or (λ (i : ℕ). IsNarrow (ranged_port choice (take place nodes) i)) n.inputs.items 0
      (λ k h. let i = get_or n.inputs.items k 0 in
      let early = All-get_or (λ (i : ℕ). i < place) n.inputs.items k 0 h earlier in
      narrow_range (chosen_at choice i) (width_at (take place nodes) i) (omega (arith, width_take nodes place i early, width_few [] nodes i are))))

  -- and a pattern of few payloads
  pub repeats_few : RepeatsFew n.kind
  repeats_few = few_repeated n.kind (port_types (map node_of (take place nodes)) (node_of n)) (omega (arith, few_inputs, length-map n.inputs.items (types_of (map node_of (take place nodes))))) node_there.fits

  inputs_within : (columns : List ℕ) → AreInWidths columns nodes → All (λ (i : ℕ). column_at columns i ≤ width_at (take place nodes) i - 1) n.inputs.items
  inputs_within columns widths =
      All-from_get_or (λ (i : ℕ). column_at columns i ≤ width_at (take place nodes) i - 1) n.inputs.items 0
      (λ k h. let i = get_or n.inputs.items k 0 in
      let early = All-get_or (λ (i : ℕ). i < place) n.inputs.items k 0 h earlier in
      let there = widths i (omega (arith, early, within)) in
      omega (arith, there, width_take nodes place i early))

  -- where columns that are the chosen ones are kept, the node may keep these
  pub kept_may : (choice : List (Option ℕ)) (columns : List ℕ) (own : ℕ) → chosen_at choice place ≡ Some own → HasChosen choice columns → AreInWidths columns nodes → KeepsKeyAt columns nodes place → may_keep n.kind (ranges choice) own ≡ true
  kept_may choice columns own chosen extends widths keeps =
      let same : column_at columns place ≡ own = subst (λ (o : Option ℕ). IfSome o (λ (c : ℕ). column_at columns place ≡ c)) chosen (extends place) in
      subst (λ (c : ℕ). may_keep n.kind (ranges choice) c ≡ true) same
      (keeps_may n.kind (ranges choice) (keyed_ports columns (take place nodes) n) (column_at columns place) (ports_admitted choice columns (take place nodes) n.inputs.items extends (inputs_within columns widths))
      (if_some (KeepsBehind columns (take place nodes) place) (slice_get nodes place) n (slice_get-get_or nodes place n within ∙ ap (λ (x : PlanNode). Some x) (sym is)) keeps))

  -- and where all columns are chosen, what the node may keep it keeps
  pub may_kept : (choice : List (Option ℕ)) (own : ℕ) → length choice ≡ length nodes → chosen_at choice place ≡ Some own → AreAllChosen choice → AreInWidths (chosen_columns choice) nodes → may_keep n.kind (ranges choice) own ≡ true → KeepsKeyAt (chosen_columns choice) nodes place
  may_kept choice own count chosen all widths may =
      let columns = chosen_columns choice in
      let same : Some (column_at columns place) ≡ Some own = sym (chosen_is choice place (all place (omega (arith, count, within)))) ∙ chosen in
      let pinned =
      All-from_get_or (IsPinnedAt choice (take place nodes)) n.inputs.items 0
      (λ k h. let early = All-get_or (λ (i : ℕ). i < place) n.inputs.items k 0 h earlier in
      (all (get_or n.inputs.items k 0) (omega (arith, early, within, count)), All-get_or (λ (i : ℕ). column_at columns i ≤ width_at (take place nodes) i - 1) n.inputs.items k 0 h (inputs_within columns widths))) in
      subst (λ (o : Option PlanNode). IfSome o (KeepsBehind columns (take place nodes) place)) (sym (slice_get-get_or nodes place n within ∙ ap (λ (x : PlanNode). Some x) (sym is)))
      (may_keeps n.kind (ranges choice) (keyed_ports columns (take place nodes) n) (column_at columns place) (ports_pinned choice (take place nodes) n.inputs.items pinned) (subst (λ (c : ℕ). may_keep n.kind (ranges choice) c ≡ true) (let e : own ≡ column_at columns place = cc in e) may))

-- ---- what the code sees of them

-- the ports that were made are those of the node
pub seen_ports : (nodes : List PlanNode) (choice : List (Option ℕ)) (place : ℕ) (n : PlanNode) (seen items : List RangedPort) (inputs : List ℕ) → seen ≡ items → items ≡ map (ranged_port choice (take place nodes)) inputs → inputs ≡ n.inputs.items
    → seen ≡ map (ranged_port choice (take place nodes)) n.inputs.items
seen_ports nodes choice place n seen items inputs same made are =
    same ∙ (made ∙ ap (λ (xs : List ℕ). map (ranged_port choice (take place nodes)) xs) are)

-- where a call answers what a test says, what follows from the test follows from the answer
pub if_answered : {E P : Type 0} (r : Result Bool E) (value b : Bool) → IfOk r (λ (answer : Bool). answer ≡ value) → (value ≡ b → P) → IfOk r (λ (answer : Bool). answer ≡ b → P)
if_answered (Ok answer) value b is then = λ e. then (sym is ∙ e)
if_answered (Err fault) value b is then = tt
