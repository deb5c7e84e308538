-- What is accepted isn't refused.
use Rattle.std.proofs.Common.{◌≡◌, ℕ, ◌+◌, List, [], ◌∷◌, ◌++◌, Bool, true, false, cond, length, take, Option, None, Some, Result, Ok, Err, refl, ap, sym, ◌∙◌, subst}
use Rattle.std.specs.Prelude.{nat_lt, if◌then◌else◌}
use Rattle.cedr_base.specs.declared.change.Message.{Message}
use Rattle.cedr_base.specs.declared.field.FieldType.{FieldType}
use Rattle.cedr_base.specs.declared.row.Row.{Row}
use Rattle.cedr_base.specs.Bytes.{line_feed}
use Rattle.cedr_guard.specs.declared.refusal.Refusal.{Refusal}
use Rattle.cedr_guard.specs.declared.refusal.TheConstants.{FILE_LIMIT}
use Rattle.cedr_guard.specs.Sources.{Judged, judged, judged_behind, judged_front, judged_lines, go_on, line_reading, with_reading, first_refusal, limit_fault, unfinished_line, whole_lines}
use Rattle.cedr_plan.specs.declared.plan.PlanNode.{PlanNode}
use Rattle.cedr_plan.specs.Places.{is_source}
use Rattle.cedr_table.specs.Operators.{Tables}
use Rattle.cedr_text.specs.declared.event_line.EventLine.{EventLine}
use Rattle.cedr_text.specs.declared.event_line.Shape.{Shape}
use Rattle.cedr_text.specs.declared.fault.LineFault.{LineFault}
use Rattle.cedr_text.specs.declared.fault.LineFault.TheVariants.{LineTooLong}
use Rattle.cedr_text.specs.declared.lines.TheConstants.{LINE_LIMIT}
use Rattle.cedr_text.specs.Lines.{raw_lines, without_return}
use Rattle.cedr_text.specs.Parts.{parts_of}
use Rattle.cedr_text.specs.Shapes.{ShapeHasTypes}
use Rattle.node_laws.specs.Lists.{Lists}
use Rattle.plan_answer.specs.Queries.{AreAcceptedSources, IsAcceptedSource, source_nodes}
use Rattle.plan_answer.specs.Sources.{AllHaveGiven, HasGiven, fault_here, faulty_from, file_of}
use Rattle.plan_live.proofs.ShapeLemmas.{readings_alike}

-- ---- judging

module _ (a b : Shape) (types : List FieldType) (has : ShapeHasTypes a types) (other : ShapeHasTypes b types) where
  on_alike : (count : ℕ) (before : List EventLine) (r : Result (List EventLine) LineFault) (f g : List EventLine → Judged) → ((now : List EventLine) → f now ≡ g now) → go_on count before r f ≡ go_on count before r g
  on_alike count before (Ok now) f g same = same now
  on_alike count before (Err fault) f g same = refl

  behind_alike : (count : ℕ) (before : List EventLine) (lines : List (List ℕ)) → judged_behind a count before lines ≡ judged_behind b count before lines
  behind_alike count before [] = refl
  behind_alike count before (line ∷ lines) =
      ap (λ said. go_on (count + 1) before (with_reading before said) (λ now. judged_behind a (count + 1) now lines)) (line_alike line)
      ∙ on_alike (count + 1) before (with_reading before (line_reading b line)) (λ now. judged_behind a (count + 1) now lines) (λ now. judged_behind b (count + 1) now lines) (λ now. behind_alike (count + 1) now lines) where
        line_alike : (line : List ℕ) → line_reading a line ≡ line_reading b line
        line_alike line = ap (λ said. if nat_lt LINE_LIMIT (length line) then Err LineTooLong else said) (readings_alike a b types (without_return line) has other)

  judged_at : (long : Bool) (parts lines : List (List ℕ)) → cond long (judged_front a parts) (judged_lines a lines) ≡ cond long (judged_front b parts) (judged_lines b lines)
  judged_at true parts lines = ap (λ (j : Judged). record { good = j.good; fault = Some (first_refusal j.fault (record { line = length (whole_lines parts) + 1; fault = limit_fault (unfinished_line parts) })) }) (behind_alike 0 [] (whole_lines parts))
  judged_at false parts lines = behind_alike 0 [] lines

  -- by shapes that have the same types a file is judged alike
  pub judged_alike : (bytes : List ℕ) → judged a bytes ≡ judged b bytes
  judged_alike bytes = judged_at (nat_lt FILE_LIMIT (length bytes)) (parts_of line_feed (take FILE_LIMIT bytes)) (raw_lines bytes)

-- ---- sources

-- a source that is accepted has no fault
no_fault : (told : List ℕ → List ℕ) (n : PlanNode) (ms given : List Message) (history : List Row) (fault : Option Refusal) → is_source n.kind ≡ true → IsAcceptedSource told n ms history → HasGiven told n given fault → fault ≡ None
no_fault told n ms given history fault is accepted gave =
    let s = gave.source is in
    sym s.2 ∙ (ap (λ (j : Judged). j.fault) (judged_alike s.0 accepted.shape n.types.items s.1 accepted.types (told (file_of n.kind))) ∙ accepted.faultless)

-- one node more is none of the faulty ones, where none of the later nodes is
one_more : (told : List ℕ → List ℕ) (n : PlanNode) (nodes : List PlanNode) (lists : Lists) (given : List Message) (histories : Tables) (fault : Option Refusal) (faults : List (Option Refusal)) (place : ℕ) → AreAcceptedSources told (source_nodes (n ∷ nodes)) lists histories → HasGiven told n given fault
    → ((lists : Lists) (histories : Tables) → AreAcceptedSources told (source_nodes nodes) lists histories → faulty_from (place + 1) faults ≡ []) → faulty_from place (fault ∷ faults) ≡ []
one_more told n nodes lists given histories fault faults place accepted gave later = by (is_source n.kind) refl lists histories accepted where
  with_none : fault ≡ None → faulty_from (place + 1) faults ≡ [] → fault_here place fault ++ faulty_from (place + 1) faults ≡ []
  with_none none others = ap (λ (o : Option Refusal). fault_here place o ++ faulty_from (place + 1) faults) none ∙ others

  at_source : (lists : Lists) (histories : Tables) → is_source n.kind ≡ true → AreAcceptedSources told (n ∷ source_nodes nodes) lists histories → fault_here place fault ++ faulty_from (place + 1) faults ≡ []
  at_source [] histories is accepted = absurd accepted
  at_source (x ∷ lists) [] is accepted = absurd accepted
  at_source (x ∷ lists) (h ∷ histories) is accepted = with_none (no_fault told n x given h fault is accepted.0 gave) (later lists histories accepted.1)

  by : (b : Bool) → is_source n.kind ≡ b → (lists : Lists) (histories : Tables) → AreAcceptedSources told (source_nodes (n ∷ nodes)) lists histories → fault_here place fault ++ faulty_from (place + 1) faults ≡ []
  by true is lists histories accepted = at_source lists histories is (subst (λ (b : Bool). AreAcceptedSources told (cond b (n ∷ source_nodes nodes) (source_nodes nodes)) lists histories) is accepted)
  by false isnt lists histories accepted =
      with_none (gave.other isnt).1 (later lists histories (subst (λ (b : Bool). AreAcceptedSources told (cond b (n ∷ source_nodes nodes) (source_nodes nodes)) lists histories) isnt accepted))

-- so none of accepted sources is faulty
pub none_faulty : (told : List ℕ → List ℕ) (nodes : List PlanNode) (lists left : Lists) (histories : Tables) (faults : List (Option Refusal)) (place : ℕ) → AreAcceptedSources told (source_nodes nodes) lists histories → AllHaveGiven told nodes left faults → faulty_from place faults ≡ []
none_faulty told [] lists [] histories [] place accepted gave = refl
none_faulty told [] lists [] histories (f ∷ faults) place accepted gave = absurd gave
none_faulty told [] lists (l ∷ left) histories faults place accepted gave = absurd gave
none_faulty told (n ∷ nodes) lists [] histories faults place accepted gave = absurd gave
none_faulty told (n ∷ nodes) lists (l ∷ left) histories [] place accepted gave = absurd gave
none_faulty told (n ∷ nodes) lists (l ∷ left) histories (f ∷ faults) place accepted gave =
    one_more told n nodes lists l histories f faults place accepted gave.0 (λ (lists' : Lists) (histories' : Tables) accepted'. none_faulty told nodes lists' left histories' faults (place + 1) accepted' gave.1)
