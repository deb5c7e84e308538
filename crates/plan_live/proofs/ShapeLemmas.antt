-- Shapes that have the same types read alike, so a script is played alike by them.
use Rattle.std.proofs.Common.{◌≡◌, ℕ, zero, suc, ◌+◌, List, [], ◌∷◌, Bool, true, false, cond, length, codes, get_or, take, Option, None, Some, Result, Ok, Err, refl, ap, sym, ◌∙◌}
use Rattle.std.specs.Prelude.{nat_lt, if◌then◌else◌}
use Rattle.std.specs.Str.{bytes_eq}
use Rattle.cedr_base.specs.declared.field.FieldType.{FieldType}
use Rattle.cedr_base.specs.Bytes.{line_feed}
use Rattle.cedr_guard.specs.declared.refusal.TheConstants.{FILE_LIMIT}
use Rattle.cedr_guard.specs.Sources.{with_reading, whole_lines, unfinished_line, first_refusal, limit_fault}
use Rattle.cedr_plan.specs.declared.plan.PlanNode.{PlanNode}
use Rattle.cedr_text.specs.declared.event_line.Shape.{Shape}
use Rattle.cedr_text.specs.declared.event_line.Shape.TheVariants.{AnyText, Fields}
use Rattle.cedr_text.specs.declared.fault.LineFault.{LineFault}
use Rattle.cedr_text.specs.declared.fault.LineFault.TheVariants.{LineTooLong, BadForm}
use Rattle.cedr_text.specs.declared.lines.TheConstants.{LINE_LIMIT}
use Rattle.cedr_text.specs.Lines.{raw_lines, without_return}
use Rattle.cedr_text.specs.Numbers.{id_value, begin_value, time_value}
use Rattle.cedr_text.specs.Parts.{parts_of}
use Rattle.cedr_text.specs.Quoting.{line_fields}
use Rattle.cedr_text.specs.Reading.{typed_payload, payload_of, version_by, version_of, inserted_by, revised_by, retraction, guarantee, event_of, event_from, as_some, breaks_form, reading}
use Rattle.cedr_text.specs.Shapes.{ShapeHasTypes}
use Rattle.plan_live.specs.Scripts.{Accepted, ShapesHaveTypes, lines_at, cut_at_comma, named_from, with_lines, with_event_line, with_named, with_cut, with_line, Played, asked, stopped, play_on, is_question, played_behind, front_after, played_after}

-- ---- a line

payloads_alike : (a b : Shape) (types : List FieldType) (texts : List (List ℕ)) → ShapeHasTypes a types → ShapeHasTypes b types → payload_of a texts ≡ payload_of b texts
payloads_alike AnyText b types texts has other = absurd has
payloads_alike (Fields v) AnyText types texts has other = absurd other
payloads_alike (Fields v) (Fields w) types texts has other = ap (λ (types : List FieldType). typed_payload types texts) (has ∙ sym other)

versions_alike : (a b : Shape) (types : List FieldType) (fields : List (List ℕ)) → ShapeHasTypes a types → ShapeHasTypes b types → version_of a fields ≡ version_of b fields
versions_alike a b types [] has other = refl
versions_alike a b types (id ∷ []) has other = refl
versions_alike a b types (id ∷ begin ∷ []) has other = refl
versions_alike a b types (id ∷ begin ∷ end ∷ texts) has other = ap (version_by (id_value id) (begin_value begin) (time_value end)) (payloads_alike a b types texts has other)

events_alike : (a b : Shape) (types : List FieldType) (fields : List (List ℕ)) → ShapeHasTypes a types → ShapeHasTypes b types → event_of a fields ≡ event_of b fields
events_alike a b types [] has other = refl
events_alike a b types (kind ∷ fields) has other =
    ap (λ said. if bytes_eq kind (codes "+") then inserted_by said else if bytes_eq kind (codes "-") then retraction fields else if bytes_eq kind (codes "=") then guarantee fields else if bytes_eq kind (codes "~") then revised_by said else Err BadForm)
    (versions_alike a b types fields has other)

fields_alike : (a b : Shape) (types : List FieldType) (fields : Option (List (List ℕ))) → ShapeHasTypes a types → ShapeHasTypes b types → event_from a fields ≡ event_from b fields
fields_alike a b types None has other = refl
fields_alike a b types (Some fields) has other = events_alike a b types fields has other

-- shapes that have the same types read a line alike
pub readings_alike : (a b : Shape) (types : List FieldType) (line : List ℕ) → ShapeHasTypes a types → ShapeHasTypes b types → reading a line ≡ reading b line
readings_alike a b types [] has other = refl
readings_alike a b types (byte ∷ line) has other =
    ap (λ said. if nat_lt LINE_LIMIT (length (byte ∷ line)) then Err LineTooLong else if breaks_form (byte ∷ line) then Err BadForm else as_some said) (fields_alike a b types (line_fields (byte ∷ line)) has other)

place_alike : (nodes : List PlanNode) (ss ts : List Shape) (place : ℕ) (line : List ℕ) → ShapesHaveTypes nodes ss → ShapesHaveTypes nodes ts → reading (get_or ss place AnyText) line ≡ reading (get_or ts place AnyText) line
place_alike [] [] [] place line has other = refl
place_alike [] [] (b ∷ ts) place line has other = absurd other
place_alike [] (a ∷ ss) ts place line has other = absurd has
place_alike (n ∷ nodes) [] ts place line has other = absurd has
place_alike (n ∷ nodes) (a ∷ ss) [] place line has other = absurd other
place_alike (n ∷ nodes) (a ∷ ss) (b ∷ ts) zero line has other = readings_alike a b n.types.items line has.0 other.0
place_alike (n ∷ nodes) (a ∷ ss) (b ∷ ts) (suc place) line has other = place_alike nodes ss ts place line has.1 other.1

-- ---- a script

module _ (nodes : List PlanNode) (ss ts : List Shape) (has : ShapesHaveTypes nodes ss) (other : ShapesHaveTypes nodes ts) where
  event_alike : (before : Accepted) (place : ℕ) (line : List ℕ) → with_event_line ss before place line ≡ with_event_line ts before place line
  event_alike before place [] = refl
  event_alike before place (byte ∷ line) = ap (λ said. with_lines before place (with_reading (lines_at before place) said)) (place_alike nodes ss ts place (byte ∷ line) has other)

  named_alike : (before : Accepted) (place : Option ℕ) (line : List ℕ) → with_named ss before place line ≡ with_named ts before place line
  named_alike before None line = refl
  named_alike before (Some place) line = event_alike before place line

  cut_alike : (before : Accepted) (cut : Option (List ℕ × List ℕ)) → with_cut nodes ss before cut ≡ with_cut nodes ts before cut
  cut_alike before None = refl
  cut_alike before (Some cut) = named_alike before (named_from 0 nodes cut.0) cut.1

  line_alike : (before : Accepted) (line : List ℕ) → with_line nodes ss before line ≡ with_line nodes ts before line
  line_alike before [] = refl
  line_alike before (byte ∷ line) = cut_alike before (cut_at_comma (byte ∷ line))

  on_alike : (count : ℕ) (before : Accepted) (r s : Result Accepted LineFault) (f g : Accepted → Played) → r ≡ s → ((now : Accepted) → f now ≡ g now) → play_on count before r f ≡ play_on count before s g
  on_alike count before r s f g same rest = ap (λ said. play_on count before said f) same ∙ by_result s where
    by_result : (s : Result Accepted LineFault) → play_on count before s f ≡ play_on count before s g
    by_result (Ok now) = rest now
    by_result (Err fault) = refl

  behind_at : (count : ℕ) (before : Accepted) (line : List ℕ) (lines : List (List ℕ)) (long question : Bool) → ((now : Accepted) → played_behind nodes ss (count + 1) now lines ≡ played_behind nodes ts (count + 1) now lines)
      → cond long (stopped (count + 1) before LineTooLong) (cond question (asked before (played_behind nodes ss (count + 1) before lines)) (play_on (count + 1) before (with_line nodes ss before (without_return line)) (λ now. played_behind nodes ss (count + 1) now lines)))
      ≡ cond long (stopped (count + 1) before LineTooLong) (cond question (asked before (played_behind nodes ts (count + 1) before lines)) (play_on (count + 1) before (with_line nodes ts before (without_return line)) (λ now. played_behind nodes ts (count + 1) now lines)))
  behind_at count before line lines true question rest = refl
  behind_at count before line lines false true rest = ap (asked before) (rest before)
  behind_at count before line lines false false rest =
      on_alike (count + 1) before (with_line nodes ss before (without_return line)) (with_line nodes ts before (without_return line)) _ _ (line_alike before (without_return line)) rest

  behind_alike : (count : ℕ) (before : Accepted) (lines : List (List ℕ)) → played_behind nodes ss count before lines ≡ played_behind nodes ts count before lines
  behind_alike count before [] = refl
  behind_alike count before (line ∷ lines) = behind_at count before line lines (nat_lt LINE_LIMIT (length line)) (is_question (without_return line)) (λ now. behind_alike (count + 1) now lines)

  front_alike : (before : Accepted) (parts : List (List ℕ)) → front_after nodes ss before parts ≡ front_after nodes ts before parts
  front_alike before parts =
      ap (λ (p : Played). record p { fault = Some (first_refusal p.fault (record { line = length (whole_lines parts) + 1; fault = limit_fault (unfinished_line parts) })) }) (behind_alike 0 before (whole_lines parts))

  after_at : (long : Bool) (before : Accepted) (parts lines : List (List ℕ)) → cond long (front_after nodes ss before parts) (played_behind nodes ss 0 before lines) ≡ cond long (front_after nodes ts before parts) (played_behind nodes ts 0 before lines)
  after_at true before parts lines = front_alike before parts
  after_at false before parts lines = behind_alike 0 before lines

  -- by shapes that have the nodes' types a script is played alike
  pub played_alike : (before : Accepted) (bytes : List ℕ) → played_after nodes ss before bytes ≡ played_after nodes ts before bytes
  played_alike before bytes = after_at (nat_lt FILE_LIMIT (length bytes)) before (parts_of line_feed (take FILE_LIMIT bytes)) (raw_lines bytes)
