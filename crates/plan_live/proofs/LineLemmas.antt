-- A line of a script by its first comma, the source that it names, and the shapes of a plan's nodes.
use Rattle.std.proofs.Common.{◌≡◌, ◌==◌, ◌&&◌, inl, inr, ℕ, zero, suc, ◌+◌, ◌<◌, List, [], ◌∷◌, ◌++◌, Bool, true, false, cond, length, get_or, take, drop, Option, None, Some, refl, ap, sym, ◌∙◌, arith}
use Rattle.std.specs.Prelude.{map, option_and_then, unwrap_or, Result, Err}
use Rattle.std.specs.List.{position, position_or_len}
use Rattle.std.specs.Str.{bytes_eq}
use Rattle.std.proofs.lemmas.Bool.{false_from_ne_true, cases_lt, lt-ltb, le-ltb}
use Rattle.std.proofs.lemmas.List.Quantifiers.{position-Some}
use Rattle.std.proofs.lemmas.List.Sums.{passes_at_first, fails_before_first}
use Rattle.cedr_guard.specs.Sources.{with_reading}
use Rattle.cedr_net.specs.Flows.{IsSourceAt}
use Rattle.cedr_net.proofs.EdgeLemmas.{any_default}
use Rattle.cedr_net.proofs.PlaceLemmas.{source_here}
use Rattle.cedr_plan.specs.declared.plan.PlanNode.{PlanNode}
use Rattle.cedr_text.specs.Shapes.{ShapeHasTypes}
use Rattle.cedr_base.specs.Bytes.{comma}
use Rattle.cedr_text.specs.Reading.{reading}
use Rattle.cedr_text.specs.declared.event_line.Shape.{Shape}
use Rattle.cedr_text.specs.declared.fault.LineFault.{LineFault}
use Rattle.cedr_text.specs.declared.fault.LineFault.TheVariants.{BadForm}
use Rattle.cedr_text.specs.declared.event_line.Shape.TheVariants.{AnyText, Fields}
use Rattle.cedr_plan.specs.Places.{is_source}
use Rattle.plan_live.specs.Scripts.{Accepted, ShapesHaveTypes, with_byte, cut_at_comma, named_from, event_at, source_event, lines_at, with_lines, with_event_line, with_named, with_cut, with_line}
use Rattle.plan_live.specs.Playing.{is_source_named}

-- ---- the first comma

-- where the first comma stands at this place
pub cut_here : (text : List ℕ) (at : ℕ) → at < length text → ((k : ℕ) → k < at → (get_or text k 0 == comma) ≡ true → ⊥) → (get_or text at 0 == comma) ≡ true → cut_at_comma text ≡ Some (take at text, drop (suc at) text)
cut_here [] at within before here = absurd (omega arith)
cut_here (b ∷ text) zero within before here = ap (λ (test : Bool). cond test (Some ([], text)) (with_byte b (cut_at_comma text))) here
cut_here (b ∷ text) (suc at) within before here =
    ap (λ (test : Bool). cond test (Some ([], text)) (with_byte b (cut_at_comma text))) (false_from_ne_true (b == comma) (before 0 (omega arith)))
    ∙ ap (with_byte b) (cut_here text at (omega arith) (λ k low. before (suc k) (omega arith)) here)

-- where there is none
pub no_cut : (text : List ℕ) → ((k : ℕ) → k < length text → (get_or text k 0 == comma) ≡ true → ⊥) → cut_at_comma text ≡ None
no_cut [] none = refl
no_cut (b ∷ text) none =
    ap (λ (test : Bool). cond test (Some ([], text)) (with_byte b (cut_at_comma text))) (false_from_ne_true (b == comma) (none 0 (omega arith)))
    ∙ ap (with_byte b) (no_cut text (λ k low. none (suc k) (omega arith)))

-- ---- the source of a name

-- a node is a source of this name
abbrev pub names : List ℕ → PlanNode → Bool
names name node = is_source_named node name

place_found : (place : ℕ) (nodes : List PlanNode) (name : List ℕ) (k : ℕ) (d : PlanNode) → k < length nodes → names name (get_or nodes k d) ≡ true → ((j : ℕ) → j < k → names name (get_or nodes j d) ≡ false)
    → named_from place nodes name ≡ Some (place + k)
place_found place [] name k d within here before = absurd (omega arith)
place_found place (n ∷ nodes) name zero d within here before =
    ap (λ (test : Bool). cond test (Some place) (named_from (place + 1) nodes name)) here ∙ ap {B = Option ℕ} (λ (k : ℕ). Some k) (omega arith)
place_found place (n ∷ nodes) name (suc k) d within here before =
    ap (λ (test : Bool). cond test (Some place) (named_from (place + 1) nodes name)) (before 0 (omega arith))
    ∙ (place_found (place + 1) nodes name k d (omega arith) here (λ j low. before (suc j) (omega arith)) ∙ ap {B = Option ℕ} (λ (k : ℕ). Some k) (omega arith))

no_place : (place : ℕ) (nodes : List PlanNode) (name : List ℕ) (d : PlanNode) → ((j : ℕ) → j < length nodes → names name (get_or nodes j d) ≡ false) → named_from place nodes name ≡ None
no_place place [] name d none = refl
no_place place (n ∷ nodes) name d none =
    ap (λ (test : Bool). cond test (Some place) (named_from (place + 1) nodes name)) (none 0 (omega arith)) ∙ no_place (place + 1) nodes name d (λ j low. none (suc j) (omega arith))

-- the source of a name is the first node that passes
pub named_first : (nodes : List PlanNode) (name : List ℕ) → position (names name) nodes ≡ named_from 0 nodes name
named_first [] name = refl
named_first (n ∷ nodes) name = elim (cases_lt first (length all)) [
  | inl h ↦ ap (λ (test : Bool). cond test (Some first) None) (lt-ltb first (length all) h)
      ∙ sym (place_found 0 all name first n h (passes_at_first (names name) all n h) (λ j low. fails_before_first (names name) all j n low) ∙ ap {B = Option ℕ} (λ (k : ℕ). Some k) (omega arith))
  | inr h ↦ ap (λ (test : Bool). cond test (Some first) None) (le-ltb first (length all) h)
      ∙ sym (no_place 0 all name n (λ j low. fails_before_first (names name) all j n (omega arith)))
] where
  all : List PlanNode
  all = n ∷ nodes

  first : ℕ
  first = position_or_len (names name) all

and_first : (b c : Bool) → b && c ≡ true → b ≡ true
and_first true c e = refl
and_first false c e = absurd (let x = e in cc)

-- and is a source of the plan
pub named_source : (nodes : List PlanNode) (name : List ℕ) (place : ℕ) → named_from 0 nodes name ≡ Some place → (place < length nodes) × IsSourceAt nodes place
named_source [] name place e = absurd (let x = e in cc)
named_source (n ∷ nodes) name place e =
    let at = position-Some (names name) (n ∷ nodes) place n (named_first (n ∷ nodes) name ∙ e) in
    let m = get_or (n ∷ nodes) place n in (
      at.0,
      source_here (n ∷ nodes) place m at.0 (any_default (n ∷ nodes) place m n at.0) (and_first (is_source m.kind) (bytes_eq m.name name) at.1),
    )

-- ---- shapes

-- there are as many shapes as nodes
pub shapes_count : (nodes : List PlanNode) (shapes : List Shape) → ShapesHaveTypes nodes shapes → length shapes ≡ length nodes
shapes_count [] [] h = refl
shapes_count [] (s ∷ shapes) h = absurd h
shapes_count (n ∷ nodes) [] h = absurd h
shapes_count (n ∷ nodes) (s ∷ shapes) h = omega (arith, shapes_count nodes shapes h.1)

-- one node more, with a shape of its types
pub shapes_push : (nodes : List PlanNode) (shapes : List Shape) (n : PlanNode) (s : Shape) → ShapesHaveTypes nodes shapes → ShapeHasTypes s n.types.items → ShapesHaveTypes (nodes ++ n ∷ []) (shapes ++ s ∷ [])
shapes_push [] [] n s h has = (has, tt)
shapes_push [] (x ∷ shapes) n s h has = absurd h
shapes_push (m ∷ nodes) [] n s h has = absurd h
shapes_push (m ∷ nodes) (x ∷ shapes) n s h has = (h.0, shapes_push nodes shapes n s h.1 has)

-- the shapes of a plan's nodes, each by the types of its fields
abbrev pub own_shapes : List PlanNode → List Shape
own_shapes nodes = map (λ (n : PlanNode). Fields n.types) nodes

-- each of these shapes is of its node's types
pub own_types : (nodes : List PlanNode) → ShapesHaveTypes nodes (own_shapes nodes)
own_types [] = tt
own_types (n ∷ nodes) = (refl, own_types nodes)

-- ---- the event of a line

-- an event that was found, or none, is judged after the earlier lines of its source
abbrev pub with_source_event : List Shape → Accepted → Option (ℕ × List ℕ) → Result Accepted LineFault
with_source_event shapes before None = Err BadForm
with_source_event shapes before (Some event) = with_lines before event.0 (with_reading (lines_at before event.0) (reading (get_or shapes event.0 AnyText) event.1))

abbrev event_behind : List PlanNode → List ℕ × List ℕ → Option (ℕ × List ℕ)
event_behind nodes cut = option_and_then (event_at cut.1) (named_from 0 nodes cut.0)

event_said : (shapes : List Shape) (before : Accepted) (place : ℕ) (bytes : List ℕ) → with_event_line shapes before place bytes ≡ with_source_event shapes before (event_at bytes place)
event_said shapes before place [] = refl
event_said shapes before place (b ∷ bytes) = refl

named_said : (shapes : List Shape) (before : Accepted) (place : Option ℕ) (bytes : List ℕ) → with_named shapes before place bytes ≡ with_source_event shapes before (option_and_then (event_at bytes) place)
named_said shapes before None bytes = refl
named_said shapes before (Some place) bytes = event_said shapes before place bytes

cut_said : (nodes : List PlanNode) (shapes : List Shape) (before : Accepted) (cut : Option (List ℕ × List ℕ)) → with_cut nodes shapes before cut ≡ with_source_event shapes before (option_and_then (event_behind nodes) cut)
cut_said nodes shapes before None = refl
cut_said nodes shapes before (Some cut) = named_said shapes before (named_from 0 nodes cut.0) cut.1

-- a line with bytes says what its event does
pub some_line : (nodes : List PlanNode) (shapes : List Shape) (before : Accepted) (line : List ℕ) (event : Option (ℕ × List ℕ)) → (length line == 0) ≡ false → source_event nodes line ≡ event → with_line nodes shapes before line ≡ with_source_event shapes before event
some_line nodes shapes before [] event some is = absurd (let x = some in cc)
some_line nodes shapes before (b ∷ bytes) event some is = cut_said nodes shapes before (cut_at_comma (b ∷ bytes)) ∙ ap (with_source_event shapes before) is

at_place : (bytes : List ℕ) (found place : ℕ) (event : List ℕ) → event_at bytes found ≡ Some (place, event) → found ≡ place
at_place [] found place event is = absurd (let x = is in cc)
at_place (b ∷ bytes) found place event is = ap (λ (e : Option (ℕ × List ℕ)). (unwrap_or e (0, [])).0) is

named_place : (found : Option ℕ) (bytes : List ℕ) (place : ℕ) (event : List ℕ) → option_and_then (event_at bytes) found ≡ Some (place, event) → found ≡ Some place
named_place None bytes place event is = absurd (let x = is in cc)
named_place (Some found) bytes place event is = ap {B = Option ℕ} (λ (k : ℕ). Some k) (at_place bytes found place event is)

cut_source : (nodes : List PlanNode) (cut : Option (List ℕ × List ℕ)) (place : ℕ) (event : List ℕ) → option_and_then (event_behind nodes) cut ≡ Some (place, event) → (place < length nodes) × IsSourceAt nodes place
cut_source nodes None place event is = absurd (let x = is in cc)
cut_source nodes (Some cut) place event is = named_source nodes cut.0 place (named_place (named_from 0 nodes cut.0) cut.1 place event is)

-- the place of an event is that of a source of the plan
pub event_source : (nodes : List PlanNode) (line : List ℕ) (place : ℕ) (event : List ℕ) → source_event nodes line ≡ Some (place, event) → (place < length nodes) × IsSourceAt nodes place
event_source nodes line place event is = cut_source nodes (cut_at_comma line) place event is

-- bytes behind the comma are the event
pub some_event : (bytes : List ℕ) (place : ℕ) → (length bytes == 0) ≡ false → event_at bytes place ≡ Some (place, bytes)
some_event [] place some = absurd (let x = some in cc)
some_event (b ∷ bytes) place some = refl

-- the event of a line that was cut at its comma, and whose source was found
pub event_found : (nodes : List PlanNode) (line name bytes : List ℕ) (found : Option ℕ) → cut_at_comma line ≡ Some (name, bytes) → found ≡ position (names name) nodes → source_event nodes line ≡ option_and_then (event_at bytes) found
event_found nodes line name bytes found cut is = ap (option_and_then (event_behind nodes)) cut ∙ ap (option_and_then (event_at bytes)) (sym (named_first nodes name) ∙ sym is)
