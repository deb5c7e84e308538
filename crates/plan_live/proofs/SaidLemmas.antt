-- What a line of a script says.
use Rattle.std.proofs.Common.{◌≡◌, ◌==◌, ℕ, ◌<◌, ◌≤◌, List, [], ◌∷◌, Bool, true, false, cond, length, Option, None, Some, Result, Ok, Err, refl, ap, ◌∙◌, arith}
use Rattle.std.proofs.lemmas.Bool.{lt-ltb, eqb-true}
use Rattle.cedr_plan.specs.declared.plan.PlanNode.{PlanNode}
use Rattle.cedr_text.specs.declared.event_line.Shape.{Shape}
use Rattle.cedr_text.specs.declared.fault.LineFault.{LineFault}
use Rattle.cedr_text.specs.declared.fault.LineFault.TheVariants.{LineTooLong, BadForm}
use Rattle.cedr_text.specs.declared.lines.TheConstants.{LINE_LIMIT}
use Rattle.cedr_text.specs.Lines.{without_return}
use Rattle.plan_live.specs.Scripts.{Accepted, source_event, with_line, is_question}
use Rattle.plan_live.specs.Playing.{accepting, step_of}
use Rattle.plan_live.specs.Said.{IsScriptEvent}
use Rattle.plan_live.proofs.LineLemmas.{event_source, some_line}
use Rattle.plan_live.proofs.ScriptLemmas.{step_short, step_says}

-- a line that is too long has that fault
pub long_step : (nodes : List PlanNode) (shapes : List Shape) (before : Accepted) (line : List ℕ) → LINE_LIMIT < length line → step_of nodes shapes before line ≡ Err LineTooLong
long_step nodes shapes before line long =
    ap (λ (test : Bool). cond test (Err LineTooLong) (cond (is_question (without_return line)) (Ok None) (accepting (with_line nodes shapes before (without_return line))))) (lt-ltb LINE_LIMIT (length line) long)

-- `?` asks for the rows
pub question_step : (nodes : List PlanNode) (shapes : List Shape) (before : Accepted) (line : List ℕ) → length line ≤ LINE_LIMIT → is_question (without_return line) ≡ true → step_of nodes shapes before line ≡ Ok None
question_step nodes shapes before line short is = step_short nodes shapes before line true short is

empty_line : (nodes : List PlanNode) (shapes : List Shape) (before : Accepted) (line : List ℕ) → (length line == 0) ≡ true → with_line nodes shapes before line ≡ Ok before
empty_line nodes shapes before [] none = refl
empty_line nodes shapes before (b ∷ bytes) none = absurd (let e = eqb-true (length (b ∷ bytes)) 0 none in omega (arith, e))

module _ (nodes : List PlanNode) (line : List ℕ) (short : length line ≤ LINE_LIMIT) (isnt : is_question (without_return line) ≡ false) where
  -- an empty line says nothing
  pub nothing_step : (shapes : List Shape) (before : Accepted) → (length (without_return line) == 0) ≡ true → step_of nodes shapes before line ≡ Ok (Some before)
  nothing_step shapes before none = step_says nodes shapes before line short isnt ∙ ap accepting (empty_line nodes shapes before (without_return line) none)

  -- a line with bytes of which no event is found has that fault
  pub other_step : (shapes : List Shape) (before : Accepted) → (length (without_return line) == 0) ≡ false → source_event nodes (without_return line) ≡ None → step_of nodes shapes before line ≡ Err BadForm
  other_step shapes before some none = step_says nodes shapes before line short isnt ∙ ap accepting (some_line nodes shapes before (without_return line) None some none)

  -- and any other one is an event line of a source
  pub event_line : (place : ℕ) (event : List ℕ) → (length (without_return line) == 0) ≡ false → source_event nodes (without_return line) ≡ Some (place, event) → IsScriptEvent nodes line place event
  event_line place event some found =
      let at = event_source nodes (without_return line) place event found in
      record {
        within = at.0;
        source = at.1;
        steps = λ shapes before. step_says nodes shapes before line short isnt ∙ ap accepting (some_line nodes shapes before (without_return line) (Some (place, event)) some found);
      }
