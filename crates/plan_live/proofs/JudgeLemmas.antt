-- A script that is judged by guards alone, line by line, and the states of the guards.
use Rattle.std.proofs.Common.{◌≡◌, ◌≢◌, ℕ, zero, suc, ◌+◌, ◌<◌, ◌≤◌, List, [], ◌∷◌, ◌++◌, Bool, true, false, cond, length, get_or, take, Option, None, Some, Result, Ok, Err, refl, ap, sym, ◌∙◌, subst, arith, add-one, append-nil}
use Rattle.std.specs.Prelude.{map}
use Rattle.std.proofs.lemmas.Bool.{lt-ltb}
use Rattle.std.proofs.lemmas.List.{map-append}
use Rattle.cedr_guard.specs.declared.fault.GuardFault.{GuardFault}
use Rattle.cedr_guard.specs.declared.fault.GuardFault.TheVariants as guard_fault
use Rattle.cedr_guard.specs.declared.guard.Guard.{Guard}
use Rattle.cedr_guard.specs.declared.refusal.Refusal.{Refusal}
use Rattle.cedr_guard.specs.declared.state.SourceState.{SourceState}
use Rattle.cedr_guard.specs.Sources.{limit_fault}
use Rattle.cedr_guard.specs.Spelt.{State, state_in, state_of}
use Rattle.cedr_plan.specs.declared.plan.PlanNode.{PlanNode}
use Rattle.cedr_plan.specs.Places.{is_source}
use Rattle.cedr_text.specs.declared.event_line.EventLine.{EventLine}
use Rattle.cedr_text.specs.declared.event_line.Shape.{Shape}
use Rattle.cedr_text.specs.declared.fault.LineFault.{LineFault}
use Rattle.cedr_text.specs.declared.fault.LineFault.TheVariants.{LineTooLong}
use Rattle.cedr_text.specs.declared.lines.TheConstants.{LINE_LIMIT}
use Rattle.cedr_text.specs.Lines.{without_return}
use Rattle.plan_live.specs.declared.fault.ScriptFault.{ScriptFault}
use Rattle.plan_live.specs.declared.fault.ScriptFault.TheVariants as script_fault
use Rattle.plan_live.specs.Judged.{lines_behind, script_fault_at, JudgesScriptLine, JudgesAll, JudgesScript}
use Rattle.plan_live.specs.Playing.{IsLineFault, GuardsStand, accepting, step_of, parts_played}
use Rattle.plan_live.specs.Resumed.{states_so_far, states_in}
use Rattle.plan_live.specs.Scripts.{Accepted, ShapesHaveTypes, lines_at, with_line, is_question, Played, played}
use Rattle.plan_live.specs.SoFar.{source_lines}
use Rattle.plan_live.proofs.ScriptLemmas.{stepped, parts_step}

-- ---- one line

-- a line that isn't `?` adds what is accepted
pub accepted_behind : (before : Accepted) (now : Result Accepted LineFault) → lines_behind before (accepting now) ≡ now
accepted_behind before (Ok now) = refl
accepted_behind before (Err fault) = refl

-- ---- so many lines were judged

-- these parts are left, and what was judged of all parts is what is judged of these
pub record IsJudgedTo (over : Bool) (nodes : List PlanNode) (shapes : List Shape) (count : ℕ) (parts : List (List ℕ)) (guards : List Guard) (all : Played) : Type 0 where
  pub before : Accepted
  pub stands : GuardsStand nodes guards before
  pub fault : all.fault ≡ (parts_played over nodes shapes count before parts).fault
  pub lines : all.lines ≡ (parts_played over nodes shapes count before parts).lines

-- before the first line all parts are left
pub first_judged : (over : Bool) (nodes : List PlanNode) (shapes : List Shape) (before : Accepted) (parts : List (List ℕ)) (guards : List Guard) → GuardsStand nodes guards before → IsJudgedTo over nodes shapes 0 parts guards (parts_played over nodes shapes 0 before parts)
first_judged over nodes shapes before parts guards stands = record { before = before; stands = stands; fault = refl; lines = refl }

module _ (over : Bool) (nodes : List PlanNode) (shapes : List Shape) (count : ℕ) (line : List ℕ) (parts : List (List ℕ)) (old : List Guard) (all : Played) (p : IsJudgedTo over nodes shapes count (line ∷ parts) old all) (more : over ≡ true → parts ≢ []) where
  abbrev rest : Accepted → Played
  rest lines = parts_played over nodes shapes (count + 1) lines parts

  left : (step : Result (Option Accepted) LineFault) → step_of nodes shapes p.before line ≡ step → parts_played over nodes shapes count p.before (line ∷ parts) ≡ stepped (count + 1) p.before step rest
  left step is = parts_step over nodes shapes count p.before line parts step more is

  goes_on : (new : List Guard) (lines now : Accepted) (step : Result (Option Accepted) LineFault) → step_of nodes shapes p.before line ≡ step → (stepped (count + 1) p.before step rest).fault ≡ (rest now).fault → (stepped (count + 1) p.before step rest).lines ≡ (rest now).lines
      → ◌≡◌ {A = Result Accepted LineFault} (Ok now) (Ok lines) → GuardsStand nodes new lines → IsJudgedTo over nodes shapes (count + 1) parts new all
  goes_on new lines now step is fault behind same stands = record {
    before = now;
    stands = subst (GuardsStand nodes new) (let e = same in cc) stands;
    fault = p.fault ∙ (ap (λ (some : Played). some.fault) (left step is) ∙ fault);
    lines = p.lines ∙ (ap (λ (some : Played). some.lines) (left step is) ∙ behind);
  }

  step_judged : (new : List Guard) (step : Result (Option Accepted) LineFault) → step_of nodes shapes p.before line ≡ step → JudgesScriptLine (Ok tt) nodes new (lines_behind p.before step) → IsJudgedTo over nodes shapes (count + 1) parts new all
  step_judged new (Ok None) is h = goes_on new h.0 p.before (Ok None) is refl refl h.1 h.2
  step_judged new (Ok (Some now)) is h = goes_on new h.0 now (Ok (Some now)) is refl refl h.1 h.2
  step_judged new (Err fault) is h = absurd (let e = h.1 in cc)

  -- a line more was accepted, or is `?`
  pub judged_on : (new : List Guard) → JudgesScriptLine (Ok tt) nodes new (lines_behind p.before (step_of nodes shapes p.before line)) → IsJudgedTo over nodes shapes (count + 1) parts new all
  judged_on new h = step_judged new (step_of nodes shapes p.before line) refl h

  step_fault : (fault : LineFault) (step : Result (Option Accepted) LineFault) → step_of nodes shapes p.before line ≡ step → lines_behind p.before step ≡ Err fault → all.fault ≡ Some (record { line = count + 1; fault = fault })
  step_fault fault (Ok None) is h = absurd (let e = h in cc)
  step_fault fault (Ok (Some now)) is h = absurd (let e = h in cc)
  step_fault fault (Err other) is h =
      let same : other ≡ fault = (let e = h in cc) in
      p.fault ∙ (ap (λ (some : Played). some.fault) (left (Err other) is) ∙ ap {B = Option Refusal} (λ (f : LineFault). Some (record { line = count + 1; fault = f })) same)

  -- it has a fault, or memory ran out
  pub judged_fault : (new : List Guard) (fault : GuardFault) → IsLineFault fault (lines_behind p.before (step_of nodes shapes p.before line)) → JudgesAll (Err (script_fault_at (count + 1) fault)) nodes new all
  judged_fault new (guard_fault.Line fault) h = step_fault fault (step_of nodes shapes p.before line) refl h
  judged_fault new guard_fault.OutOfMemory h = tt

-- the line that isn't finished at the limit
pub judged_unfinished : (nodes : List PlanNode) (shapes : List Shape) (count : ℕ) (line : List ℕ) (guards : List Guard) (all : Played) → IsJudgedTo true nodes shapes count (line ∷ []) guards all → all.fault ≡ Some (record { line = count + 1; fault = limit_fault line })
judged_unfinished nodes shapes count line guards all p = p.fault ∙ ap {B = Option Refusal} (λ n. Some (record { line = n; fault = limit_fault line })) (omega arith)

-- all lines were judged
pub judged_all : (over : Bool) (nodes : List PlanNode) (shapes : List Shape) (count : ℕ) (guards : List Guard) (all : Played) → (over ≡ true → ◌≡◌ {A = List (List ℕ)} [] [] → ⊥) → IsJudgedTo over nodes shapes count [] guards all → JudgesAll (Ok tt) nodes guards all
judged_all false nodes shapes count guards all more p = (p.fault, subst (GuardsStand nodes guards) (sym p.lines) p.stands)
judged_all true nodes shapes count guards all more p = absurd (more refl refl)

-- ---- the whole script

-- judging a script comes to the fault of its lines
pub script_fault_is : (fault : ScriptFault) (nodes : List PlanNode) (shapes : List Shape) (bytes : List ℕ) (guards : List Guard) → ShapesHaveTypes nodes shapes → JudgesAll (Err fault) nodes guards (played nodes shapes bytes) → JudgesScript (Err fault) nodes bytes
script_fault_is (script_fault.Refused refusal) nodes shapes bytes guards types judged = record { shapes = shapes; types = types; first = judged }
script_fault_is script_fault.OutOfMemory nodes shapes bytes guards types judged = tt

-- ---- states

lines_joined_at : (b : Bool) (l : List EventLine) (all before more : Accepted) → all ≡ before ++ more → cond b (l ∷ all) all ≡ cond b (l ∷ before) before ++ more
lines_joined_at true l all before more h = ap (λ (ls : Accepted). l ∷ ls) h
lines_joined_at false l all before more h = h

-- the lines of the sources up to one node more
lines_more : (nodes : List PlanNode) (before : Accepted) (k : ℕ) (n : PlanNode) → length before ≡ length nodes → k < length nodes → n ≡ get_or nodes k n
    → source_lines (take (suc k) nodes) before ≡ source_lines (take k nodes) before ++ cond (is_source n.kind) (lines_at before k ∷ []) []
lines_more [] before k n long within at = absurd (omega arith)
lines_more (m ∷ nodes) [] k n long within at = absurd (omega arith)
lines_more (m ∷ nodes) (l ∷ before) zero n long within at = ap {B = Accepted} (λ (x : PlanNode). cond (is_source x.kind) (l ∷ []) []) (sym at)
lines_more (m ∷ nodes) (l ∷ before) (suc k) n long within at =
    lines_joined_at (is_source m.kind) l (source_lines (take (suc k) nodes) before) (source_lines (take k nodes) before) (cond (is_source n.kind) (lines_at before k ∷ []) []) (lines_more nodes before k n (omega arith) (omega arith) at)

state_added : (b : Bool) (before : Accepted) (lines : List EventLine) → map state_of (before ++ cond b (lines ∷ []) []) ≡ map state_of before ++ cond b (state_of lines ∷ []) []
state_added true before lines = map-append state_of before (lines ∷ [])
state_added false before lines = ap (map state_of) (append-nil before) ∙ sym (append-nil (map state_of before))

module _ (nodes : List PlanNode) (before : Accepted) (k : ℕ) (n : PlanNode) (long : length before ≡ length nodes) (within : k < length nodes) (at : n ≡ get_or nodes k n) (states : List SourceState) (so_far : states_in states ≡ states_so_far (take k nodes) before) where
  states_more : (b : Bool) → is_source n.kind ≡ b → states_so_far (take (k + 1) nodes) before ≡ states_so_far (take k nodes) before ++ cond b (state_of (lines_at before k) ∷ []) []
  states_more b is =
      ap (λ (j : ℕ). states_so_far (take j nodes) before) (add-one k)
      ∙ (ap (map state_of) (lines_more nodes before k n long within at)
      ∙ (ap (λ (c : Bool). map state_of (source_lines (take k nodes) before ++ cond c (lines_at before k ∷ []) [])) is ∙ state_added b (source_lines (take k nodes) before) (lines_at before k)))

  -- a source has a state
  pub source_state : is_source n.kind ≡ true → (s : SourceState) (now : List SourceState) → state_in s ≡ state_of (lines_at before k) → now ≡ states ++ s ∷ [] → states_in now ≡ states_so_far (take (k + 1) nodes) before
  source_state is s now here with_it =
      ap states_in with_it
      ∙ (map-append state_in states (s ∷ [])
      ∙ (ap (λ (xs : List State). xs ++ state_in s ∷ []) so_far
      ∙ (ap (λ (x : State). states_so_far (take k nodes) before ++ x ∷ []) here ∙ sym (states_more true is))))

  -- any other node has none
  pub no_state : is_source n.kind ≡ false → states_in states ≡ states_so_far (take (k + 1) nodes) before
  no_state isnt = so_far ∙ (sym (append-nil (states_so_far (take k nodes) before)) ∙ sym (states_more false isnt))
