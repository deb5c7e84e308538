-- The lines of a script whose bytes come in pieces, of which those that are too long are left out.
use Rattle.std.specs.Prelude.{ℕ, ◌≡◌, ◌==◌, ◌<◌, ◌≤◌, ◌++◌, true, false, List, [], ◌∷◌, length, map, drop, nat_lt, if◌then◌else◌, Option, None, Some}
use Rattle.cedr_base.specs.Bytes.{line_feed}
use Rattle.cedr_text.specs.Lines.{raw_lines, without_return}
use Rattle.cedr_text.specs.declared.lines.TheConstants.{LINE_LIMIT}
use Rattle.cedr_script.specs.Begun.{Begun}
use Rattle.cedr_script.specs.declared.cutter.CutStep.{CutStep}
use Rattle.cedr_script.specs.declared.cutter.CutStep.TheVariants as step

-- what stands behind the first line feed, and nothing where there is none
abbrev pub behind_feed : List ℕ → List ℕ
behind_feed [] = []
behind_feed (b ∷ bytes) = if b == line_feed then bytes else behind_feed bytes

-- what is answered for a line: its text without a carriage return at the end, or nothing where it is too long
abbrev pub line_answer : List ℕ → Option (List ℕ)
line_answer raw = if nat_lt LINE_LIMIT (length raw) then None else Some (without_return raw)

-- the answers for the lines of a script
abbrev pub script_answers : List ℕ → List (Option (List ℕ))
script_answers bytes = map line_answer (raw_lines bytes)

-- the answers that are left where these bytes come behind what has begun
abbrev pub answers_left : Begun → List ℕ → List (Option (List ℕ))
answers_left begun bytes = script_answers (if begun.leaves then behind_feed bytes else begun.line ++ bytes)

-- what a step answered
abbrev pub step_answers : CutStep → List ℕ → List (Option (List ℕ))
step_answers step.Line line = Some line ∷ []
step_answers step.TooLong line = None ∷ []
step_answers step.NotYet line = []

-- bytes without a line feed came behind what has begun: the line may still go on, or it is too long and left out from now on
abbrev pub BeginsOn : CutStep → Begun → Begun → List ℕ → Type 0
BeginsOn step.Line old new bytes = ⊥
BeginsOn step.TooLong old new bytes = (LINE_LIMIT < length (old.line ++ bytes)) × (new ≡ record { line = []; leaves = true })
BeginsOn step.NotYet old new bytes = new ≡ record { line = old.line ++ bytes; leaves = false }

-- So many bytes at the front of a piece were taken. Whatever may still come, what was answered is what comes first of what
-- was left. More is asked for only where all bytes were taken.
pub record Cuts (said : CutStep) (old new : Begun) (piece : List ℕ) (count : ℕ) (line : List ℕ) : Type 0 where
  pub within : count ≤ length piece
  pub some : 0 < length piece → 0 < count
  pub answered : (more : List ℕ) → answers_left old (piece ++ more) ≡ step_answers said line ++ answers_left new (drop count piece ++ more)
  pub all : said ≡ step.NotYet → count ≡ length piece
