-- What the accepted lines of a script come to may be saved, and its text fits into a checkpoint.
use Rattle.std.proofs.Common.{◌≡◌, ℕ, zero, suc, ◌+◌, ◌<◌, ◌≤◌, ◌==◌, List, [], ◌∷◌, ◌++◌, Bool, true, false, cond, length, set, get_or, take, Option, None, Some, refl, arith}
use Rattle.std.specs.Prelude.{map, nat_lt, All, Result, Ok, Err}
use Rattle.std.specs.List.{onto_first}
use Rattle.std.proofs.lemmas.Bool.{ltb-false}
use Rattle.std.proofs.lemmas.List.{length-take}
use Rattle.cedr_base.specs.Bytes.{comma, line_feed}
use Rattle.cedr_base.specs.declared.field.FieldType.{FieldType}
use Rattle.cedr_guard.specs.declared.refusal.TheConstants.{FILE_LIMIT}
use Rattle.cedr_guard.specs.Judging.{fault_behind}
use Rattle.cedr_guard.specs.Sources.{with_event, with_reading, whole_lines}
use Rattle.cedr_guard.specs.Spelt.{state_of, HasBare}
use Rattle.cedr_guard.proofs.SpeltLemmas.{fit_state}
use Rattle.cedr_plan.specs.declared.plan.PlanNode.{PlanNode}
use Rattle.cedr_plan.specs.Places.{is_source}
use Rattle.cedr_plan.specs.Rules.{ArePlanned}
use Rattle.cedr_save.specs.declared.reader.TheConstants.{CHECKPOINT_LIMIT}
use Rattle.cedr_save.specs.Checkpoints.{Source, plan_sources, IsSaved, AreSaved, checkpoint_text}
use Rattle.cedr_save.proofs.LineReadings.{IsTypedLine, line_size, IfSays, reading_typed, reading_short}
use Rattle.cedr_save.proofs.SavedStates.{AreTypedLines, saved_state}
use Rattle.cedr_save.proofs.EventSizes.{lines_size, size-append, state_short}
use Rattle.cedr_save.proofs.TextSizes.{states_size, text_short}
use Rattle.cedr_text.specs.declared.event_line.EventLine.{EventLine}
use Rattle.cedr_text.specs.declared.event_line.Shape.{Shape}
use Rattle.cedr_text.specs.declared.event_line.Shape.TheVariants.{AnyText}
use Rattle.cedr_text.specs.declared.fault.LineFault.{LineFault}
use Rattle.cedr_text.specs.declared.fault.LineFault.TheVariants.{LineTooLong}
use Rattle.cedr_text.specs.declared.lines.TheConstants.{LINE_LIMIT}
use Rattle.cedr_text.specs.Lines.{raw_lines, without_return, without_empty_end}
use Rattle.cedr_text.specs.Parts.{parts_of}
use Rattle.cedr_text.specs.Reading.{reading}
use Rattle.cedr_text.specs.Shapes.{ShapeHasTypes}
use Rattle.cedr_text.proofs.ReadingLemmas.{reading_event}
use Rattle.plan_live.specs.Scripts.{Accepted, ShapesHaveTypes, with_byte, cut_at_comma, named_from, lines_at, no_lines, with_lines, with_event_line, with_named, with_cut, with_line, Played, asked, stopped, play_on, is_question, played_behind, front_after, played}
use Rattle.plan_live.specs.SoFar.{AreLines, source_lines}
use Rattle.plan_live.specs.Resumed.{states_so_far}
use Rattle.plan_live.proofs.LineLemmas.{named_source}
use Rattle.plan_live.proofs.SoFarLemmas.{source_are, after_are, none_are}

-- ---- the lines of a script are no longer than it

-- how many bytes lines have
abbrev bytes_in : List (List ℕ) → ℕ
bytes_in [] = 0
bytes_in (line ∷ lines) = length line + bytes_in lines

first_longer : (b : ℕ) (parts : List (List ℕ)) → bytes_in (onto_first b parts) ≡ suc (bytes_in parts)
first_longer b [] = omega arith
first_longer b (part ∷ parts) = omega arith

part_at : (test : Bool) (b : ℕ) (parts : List (List ℕ)) (n : ℕ) → bytes_in parts ≤ n → bytes_in (cond test ([] ∷ parts) (onto_first b parts)) ≤ suc n
part_at true b parts n low = omega (arith, low)
part_at false b parts n low = omega (arith, low, first_longer b parts)

parts_short : (bytes : List ℕ) → bytes_in (parts_of line_feed bytes) ≤ length bytes
parts_short [] = omega arith
parts_short (b ∷ bytes) = part_at (b == line_feed) b (parts_of line_feed bytes) (length bytes) (parts_short bytes)

end_short : (parts : List (List ℕ)) → bytes_in (without_empty_end parts) ≤ bytes_in parts
end_short [] = omega arith
end_short ([] ∷ []) = omega arith
end_short ((b ∷ bs) ∷ []) = omega arith
end_short ([] ∷ next ∷ parts) = omega (arith, end_short (next ∷ parts))
end_short ((b ∷ bs) ∷ next ∷ parts) = omega (arith, end_short (next ∷ parts))

whole_short : (parts : List (List ℕ)) → bytes_in (whole_lines parts) ≤ bytes_in parts
whole_short [] = omega arith
whole_short (part ∷ []) = omega arith
whole_short (part ∷ next ∷ parts) = omega (arith, whole_short (next ∷ parts))

return_at : (is_return : Bool) (b : ℕ) → length (cond is_return [] (b ∷ [])) ≤ 1
return_at true b = omega arith
return_at false b = omega arith

return_short : (line : List ℕ) → length (without_return line) ≤ length line
return_short [] = omega arith
return_short (b ∷ []) = return_at (b == 13) b
return_short (b ∷ c ∷ bs) = omega (arith, return_short (c ∷ bs))

-- what stands behind the first comma is no longer than the line, where there is one
abbrev IsShortCut : ℕ → Option (List ℕ × List ℕ) → Type 0
IsShortCut n None = Unit {0}
IsShortCut n (Some cut) = length cut.1 ≤ n

cut_at : (test : Bool) (b : ℕ) (bytes : List ℕ) (cut : Option (List ℕ × List ℕ)) → IsShortCut (length bytes) cut → IsShortCut (suc (length bytes)) (cond test (Some ([], bytes)) (with_byte b cut))
cut_at true b bytes cut short = omega arith
cut_at false b bytes None short = tt
cut_at false b bytes (Some cut) short = omega arith

cut_short : (bytes : List ℕ) → IsShortCut (length bytes) (cut_at_comma bytes)
cut_short [] = tt
cut_short (b ∷ bytes) = cut_at (b == comma) b bytes (cut_at_comma bytes) (cut_short bytes)

-- ---- one line of one source

-- the lines of one source now, where there are any, have its types, and at most so many bytes
abbrev IsOneNow : List FieldType → ℕ → Result (List EventLine) LineFault → Type 0
IsOneNow types n (Ok now) = AreTypedLines types now × (lines_size now ≤ n)
IsOneNow types n (Err fault) = Unit {0}

typed-push : (types : List FieldType) (lines : List EventLine) (line : EventLine) → AreTypedLines types lines → IsTypedLine types line → AreTypedLines types (lines ++ line ∷ [])
typed-push types [] line are is = (is, tt)
typed-push types (first ∷ lines) line are is = (are.0, typed-push types lines line are.1 is)

event_now : (types : List FieldType) (before : List EventLine) (line : EventLine) (fault : Option LineFault) (n : ℕ) → AreTypedLines types before → IsTypedLine types line → line_size line ≤ n → IsOneNow types (lines_size before + n) (with_event before line fault)
event_now types before line None n are is short = (typed-push types before line are is, omega (arith, size-append before (line ∷ [])))
event_now types before line (Some fault) n are is short = tt

reading_now : (types : List FieldType) (before : List EventLine) (read : Result (Option EventLine) LineFault) (n : ℕ) → AreTypedLines types before → IfSays (IsTypedLine types) read → IfSays (λ line. line_size line ≤ n) read
    → IsOneNow types (lines_size before + n) (with_reading before read)
reading_now types before (Err fault) n are is short = tt
reading_now types before (Ok None) n are is short = (are, omega arith)
reading_now types before (Ok (Some line)) n are is short = event_now types before line (fault_behind before line) n are is short

-- ---- the lines of all sources

-- the lines of each node have its types
abbrev AreTypedAt : List PlanNode → Accepted → Type 0
AreTypedAt [] [] = Unit {0}
AreTypedAt [] (l ∷ lines) = ⊥
AreTypedAt (n ∷ nodes) [] = ⊥
AreTypedAt (n ∷ nodes) (l ∷ lines) = AreTypedLines n.types.items l × AreTypedAt nodes lines

-- how many bytes the lines of all nodes have
abbrev accepted_size : Accepted → ℕ
accepted_size [] = 0
accepted_size (l ∷ lines) = lines_size l + accepted_size lines

-- the lines of each node have its types, and all together have at most so many bytes
record AreKept (nodes : List PlanNode) (n : ℕ) (lines : Accepted) : Type 0 where
  typed : AreTypedAt nodes lines
  short : accepted_size lines ≤ n

-- the same of the lines now, where there are any
abbrev AreKeptNow : List PlanNode → ℕ → Result Accepted LineFault → Type 0
AreKeptNow nodes n (Ok now) = AreKept nodes n now
AreKeptNow nodes n (Err fault) = Unit {0}

kept_within : (nodes : List PlanNode) (low high : ℕ) (lines : Accepted) → low ≤ high → AreKept nodes low lines → AreKept nodes high lines
kept_within nodes low high lines within kept = let short = kept.short in record { typed = kept.typed; short = omega arith }

-- the types of the node at a place
abbrev types_at : List PlanNode → ℕ → List FieldType
types_at [] place = []
types_at (n ∷ nodes) zero = n.types.items
types_at (n ∷ nodes) (suc place) = types_at nodes place

shape_at : (nodes : List PlanNode) (shapes : List Shape) (place : ℕ) → ShapesHaveTypes nodes shapes → place < length nodes → ShapeHasTypes (get_or shapes place AnyText) (types_at nodes place)
shape_at [] shapes place has within = absurd (omega arith)
shape_at (n ∷ nodes) [] place has within = absurd has
shape_at (n ∷ nodes) (s ∷ shapes) zero has within = has.0
shape_at (n ∷ nodes) (s ∷ shapes) (suc place) has within = shape_at nodes shapes place has.1 (omega arith)

typed_at : (nodes : List PlanNode) (lines : Accepted) (place : ℕ) → AreTypedAt nodes lines → place < length nodes → AreTypedLines (types_at nodes place) (lines_at lines place)
typed_at [] lines place are within = absurd (omega arith)
typed_at (n ∷ nodes) [] place are within = absurd are
typed_at (n ∷ nodes) (l ∷ lines) zero are within = are.0
typed_at (n ∷ nodes) (l ∷ lines) (suc place) are within = typed_at nodes lines place are.1 (omega arith)

set_typed : (nodes : List PlanNode) (lines : Accepted) (place : ℕ) (now : List EventLine) → AreTypedAt nodes lines → place < length nodes → AreTypedLines (types_at nodes place) now → AreTypedAt nodes (set lines place now)
set_typed [] lines place now are within is = absurd (omega arith)
set_typed (n ∷ nodes) [] place now are within is = absurd are
set_typed (n ∷ nodes) (l ∷ lines) zero now are within is = (is, are.1)
set_typed (n ∷ nodes) (l ∷ lines) (suc place) now are within is = (are.0, set_typed nodes lines place now are.1 (omega arith) is)

set_short : (lines : Accepted) (place : ℕ) (now : List EventLine) (n : ℕ) → lines_size now ≤ lines_size (lines_at lines place) + n → accepted_size (set lines place now) ≤ accepted_size lines + n
set_short [] place now n low = omega arith
set_short (l ∷ lines) zero now n low = omega (arith, low)
set_short (l ∷ lines) (suc place) now n low = omega (arith, set_short lines place now n low)

lines_kept : (nodes : List PlanNode) (before : Accepted) (place n m : ℕ) (now : Result (List EventLine) LineFault) → AreKept nodes n before → place < length nodes → IsOneNow (types_at nodes place) (lines_size (lines_at before place) + m) now
    → AreKeptNow nodes (n + m) (with_lines before place now)
lines_kept nodes before place n m (Ok now) kept within is =
    let short = kept.short in
    record { typed = set_typed nodes before place now kept.typed within is.0; short = omega (arith, set_short before place now m is.1) }
lines_kept nodes before place n m (Err fault) kept within is = tt

-- ---- a script

module _ (nodes : List PlanNode) (shapes : List Shape) (has : ShapesHaveTypes nodes shapes) where
  event_kept : (before : Accepted) (place n : ℕ) (bytes : List ℕ) → AreKept nodes n before → place < length nodes → AreKeptNow nodes (n + length bytes) (with_event_line shapes before place bytes)
  event_kept before place n [] kept within = tt
  event_kept before place n (b ∷ bytes) kept within =
      let shape = get_or shapes place AnyText in
      lines_kept nodes before place n (length (b ∷ bytes)) (with_reading (lines_at before place) (reading (get_or shapes place AnyText) (b ∷ bytes))) kept within
      (reading_now (types_at nodes place) (lines_at before place) (reading (get_or shapes place AnyText) (b ∷ bytes)) (length (b ∷ bytes)) (typed_at nodes before place kept.typed within)
      (reading_typed (get_or shapes place AnyText) (types_at nodes place) (b ∷ bytes) (shape_at nodes shapes place has within)) (reading_short (get_or shapes place AnyText) (b ∷ bytes)))

  named_kept : (before : Accepted) (name : List ℕ) (place : Option ℕ) (n : ℕ) (bytes : List ℕ) → AreKept nodes n before → named_from 0 nodes name ≡ place → AreKeptNow nodes (n + length bytes) (with_named shapes before place bytes)
  named_kept before name None n bytes kept is = tt
  named_kept before name (Some place) n bytes kept is = event_kept before place n bytes kept (named_source nodes name place is).0

  now_within : (low high : ℕ) (now : Result Accepted LineFault) → low ≤ high → AreKeptNow nodes low now → AreKeptNow nodes high now
  now_within low high (Ok now) within kept = kept_within nodes low high now within kept
  now_within low high (Err fault) within kept = tt

  cut_kept : (before : Accepted) (cut : Option (List ℕ × List ℕ)) (n m : ℕ) → AreKept nodes n before → IsShortCut m cut → AreKeptNow nodes (n + m) (with_cut nodes shapes before cut)
  cut_kept before None n m kept short = tt
  cut_kept before (Some cut) n m kept short =
      now_within (n + length cut.1) (n + m) (with_named shapes before (named_from 0 nodes cut.0) cut.1) (omega arith) (named_kept before cut.0 (named_from 0 nodes cut.0) n cut.1 kept refl)

  line_kept : (before : Accepted) (n : ℕ) (line : List ℕ) → AreKept nodes n before → AreKeptNow nodes (n + length line) (with_line nodes shapes before line)
  line_kept before n [] kept = kept_within nodes n (n + 0) before (omega arith) kept
  line_kept before n (b ∷ bytes) kept = cut_kept before (cut_at_comma (b ∷ bytes)) n (length (b ∷ bytes)) kept (cut_short (b ∷ bytes))

  step_kept : (long question : Bool) (number : ℕ) (before : Accepted) (now : Result Accepted LineFault) (rest : Accepted → Played) (n m : ℕ) → n ≤ m → AreKept nodes n before → AreKeptNow nodes n now → ((lines : Accepted) → AreKept nodes n lines → AreKept nodes m (rest lines).lines)
      → AreKept nodes m (cond long (stopped number before LineTooLong) (cond question (asked before (rest before)) (play_on number before now rest))).lines
  step_kept true question number before now rest n m within kept next behind = kept_within nodes n m before within kept
  step_kept false true number before now rest n m within kept next behind = behind before kept
  step_kept false false number before (Ok now) rest n m within kept next behind = behind now next
  step_kept false false number before (Err fault) rest n m within kept next behind = kept_within nodes n m before within kept

  behind_kept : (count : ℕ) (before : Accepted) (n : ℕ) (lines : List (List ℕ)) → AreKept nodes n before → AreKept nodes (n + bytes_in lines) (played_behind nodes shapes count before lines).lines
  behind_kept count before n [] kept = kept_within nodes n (n + 0) before (omega arith) kept
  behind_kept count before n (line ∷ lines) kept =
      step_kept (nat_lt LINE_LIMIT (length line)) (is_question (without_return line)) (count + 1) before (with_line nodes shapes before (without_return line)) (λ now. played_behind nodes shapes (count + 1) now lines) (n + length line) (n + bytes_in (line ∷ lines)) (omega arith)
      (kept_within nodes n (n + length line) before (omega arith) kept)
      (now_within (n + length (without_return line)) (n + length line) (with_line nodes shapes before (without_return line)) (omega (arith, return_short line)) (line_kept before n (without_return line) kept))
      (λ now next. kept_within nodes ((n + length line) + bytes_in lines) (n + bytes_in (line ∷ lines)) (played_behind nodes shapes (count + 1) now lines).lines (omega arith) (behind_kept (count + 1) now (n + length line) lines next))

  none_typed : (ns : List PlanNode) → AreTypedAt ns (no_lines ns)
  none_typed [] = tt
  none_typed (n ∷ ns) = (tt, none_typed ns)

  none_size : (ns : List PlanNode) → accepted_size (no_lines ns) ≡ 0
  none_size [] = refl
  none_size (n ∷ ns) = omega (arith, none_size ns)

  lines_within : (lines : List (List ℕ)) (m : ℕ) → bytes_in lines ≤ m → AreKept nodes m (played_behind nodes shapes 0 (no_lines nodes) lines).lines
  lines_within lines m low =
      kept_within nodes (0 + bytes_in lines) m (played_behind nodes shapes 0 (no_lines nodes) lines).lines (omega arith)
      (behind_kept 0 (no_lines nodes) 0 lines (record { typed = none_typed nodes; short = omega (arith, none_size nodes) }))

  script_at : (large : Bool) (bytes : List ℕ) → nat_lt FILE_LIMIT (length bytes) ≡ large
      → AreKept nodes FILE_LIMIT (cond large (front_after nodes shapes (no_lines nodes) (parts_of line_feed (take FILE_LIMIT bytes))) (played_behind nodes shapes 0 (no_lines nodes) (raw_lines bytes))).lines
  script_at true bytes is =
      let front = take FILE_LIMIT bytes in
      lines_within (whole_lines (parts_of line_feed front)) FILE_LIMIT (omega (arith, whole_short (parts_of line_feed front), parts_short front, length-take FILE_LIMIT bytes))
  script_at false bytes is =
      let low = ltb-false FILE_LIMIT (length bytes) is in
      lines_within (raw_lines bytes) FILE_LIMIT (omega (arith, end_short (parts_of line_feed bytes), parts_short bytes))

  -- the accepted lines of a script have the types of their nodes, and are no longer than a script may be
  script_kept : (bytes : List ℕ) → AreKept nodes FILE_LIMIT (played nodes shapes bytes).lines
  script_kept bytes = script_at (nat_lt FILE_LIMIT (length bytes)) bytes refl

-- ---- the states of the sources

saved_at : (b : Bool) (source : Source) (sources : List Source) (l : List EventLine) (ls : Accepted) → IsSaved source (state_of l) → AreSaved sources (map state_of ls) → AreSaved (cond b (source ∷ sources) sources) (map state_of (cond b (l ∷ ls) ls))
saved_at true source sources l ls one are = (one, are)
saved_at false source sources l ls one are = are

states_saved : (nodes : List PlanNode) (lines : Accepted) → AreLines lines → AreTypedAt nodes lines → AreSaved (plan_sources nodes) (states_so_far nodes lines)
states_saved [] [] accepted are = tt
states_saved [] (l ∷ lines) accepted are = absurd are
states_saved (n ∷ nodes) [] accepted are = absurd are
states_saved (n ∷ nodes) (l ∷ lines) accepted are =
    let source : Source = record { name = n.name; types = n.types.items } in
    saved_at (is_source n.kind) source (plan_sources nodes) l (source_lines nodes lines) (saved_state source l (accepted 0) are.0) (states_saved nodes lines (λ k. accepted (suc k)) are.1)

states_bare : (lines : Accepted) → AreLines lines → All HasBare (map state_of lines)
states_bare [] accepted k d within = absurd (omega arith)
states_bare (l ∷ lines) accepted zero d within = (fit_state l (accepted 0)).1
states_bare (l ∷ lines) accepted (suc k) d within = states_bare lines (λ j. accepted (suc j)) k d (omega arith)

states_short : (lines : Accepted) → AreLines lines → states_size (map state_of lines) ≤ accepted_size lines
states_short [] accepted = omega arith
states_short (l ∷ lines) accepted = omega (arith, state_short l (accepted 0), states_short lines (λ k. accepted (suc k)))

sources_at : (b : Bool) (l : List EventLine) (ls : Accepted) (n : ℕ) → accepted_size ls ≤ n → accepted_size (cond b (l ∷ ls) ls) ≤ lines_size l + n
sources_at true l ls n low = omega (arith, low)
sources_at false l ls n low = omega (arith, low)

sources_short : (nodes : List PlanNode) (lines : Accepted) → accepted_size (source_lines nodes lines) ≤ accepted_size lines
sources_short [] lines = omega arith
sources_short (n ∷ nodes) [] = omega (arith, sources_at (is_source n.kind) [] (source_lines nodes []) 0 (sources_short nodes []))
sources_short (n ∷ nodes) (l ∷ lines) = sources_at (is_source n.kind) l (source_lines nodes lines) (accepted_size lines) (sources_short nodes lines)

script_lines : (nodes : List PlanNode) (shapes : List Shape) (bytes : List ℕ) → AreLines (played nodes shapes bytes).lines
script_lines nodes shapes bytes = (after_are reading_event nodes shapes (no_lines nodes) bytes (none_are nodes)).1

-- the states that a script comes to may be saved
pub script_saved : (nodes : List PlanNode) (shapes : List Shape) (bytes : List ℕ) → ShapesHaveTypes nodes shapes
    → AreSaved (plan_sources nodes) (states_so_far nodes (played nodes shapes bytes).lines) × All HasBare (states_so_far nodes (played nodes shapes bytes).lines)
script_saved nodes shapes bytes has =
    let lines = (played nodes shapes bytes).lines in
    let accepted = script_lines nodes shapes bytes in
    (states_saved nodes lines accepted (script_kept nodes shapes has bytes).typed, states_bare (source_lines nodes lines) (source_are nodes lines accepted))

-- and their text fits into a checkpoint
pub script_fits : (nodes : List PlanNode) (shapes : List Shape) (bytes : List ℕ) → ArePlanned nodes → ShapesHaveTypes nodes shapes
    → length (checkpoint_text (plan_sources nodes) (states_so_far nodes (played nodes shapes bytes).lines)) ≤ CHECKPOINT_LIMIT
script_fits nodes shapes bytes planned has =
    let lines = (played nodes shapes bytes).lines in
    omega (
      arith,
      text_short nodes (states_so_far nodes lines) planned (script_saved nodes shapes bytes has).0,
      states_short (source_lines nodes lines) (source_are nodes lines (script_lines nodes shapes bytes)),
      sources_short nodes lines,
      (script_kept nodes shapes has bytes).short,
    )
