-- The lines of a file, however its bytes come.
use Rattle.std.specs.Prelude.{ℕ, ◌≡◌, ◌==◌, ◌<◌, ◌≤◌, ◌++◌, ◌+◌, Bool, true, false, List, [], ◌∷◌, length, take, slice_index, if◌then◌else◌}
use Rattle.std.specs.List.{list_any}
use Rattle.cedr_base.specs.Bytes.{line_feed}
use Rattle.cedr_text.specs.Parts.{parts_of}
use Rattle.cedr_text.specs.declared.lines.TheConstants.{LINE_LIMIT}
use Rattle.cedr_text.specs.declared.lines.LineStep.{LineStep}
use Rattle.cedr_text.specs.declared.lines.LineStep.TheVariants.{Line, TooLong, NotYet, Finished}

-- the parts without the last one where that is empty
abbrev pub without_empty_end : List (List ℕ) → List (List ℕ)
without_empty_end [] = []
without_empty_end ([] ∷ []) = []
without_empty_end ((b ∷ bs) ∷ []) = (b ∷ bs) ∷ []
without_empty_end (part ∷ next ∷ parts) = part ∷ without_empty_end (next ∷ parts)

-- what stands between the line feeds, and after the last one if there is anything
abbrev pub raw_lines : List ℕ → List (List ℕ)
raw_lines bytes = without_empty_end (parts_of line_feed bytes)

-- without one carriage return at the end
abbrev pub without_return : List ℕ → List ℕ
without_return [] = []
without_return (b ∷ []) = if b == 13 then [] else b ∷ []
without_return (b ∷ c ∷ bs) = b ∷ without_return (c ∷ bs)

-- bytes that were fed and not given, and whether no more will come
pub record Fed : Type 0 where
  pub kept : List ℕ
  pub finished : Bool

-- some byte is a line feed
abbrev pub has_line_feed : List ℕ → Bool
has_line_feed bytes = list_any (λ b. b == line_feed) bytes

-- whatever may still come, this line stands first among what is left, and then what is left after it
abbrev pub NextIs : Fed → List ℕ → (List ℕ → List (List ℕ)) → Type 0
NextIs fed raw behind = (more : List ℕ) → (fed.finished ≡ true → more ≡ []) → raw_lines (fed.kept ++ more) ≡ raw ∷ behind more

-- a line was given: the next one, which isn't too long
pub record GivesLine (old new : Fed) (line : List ℕ) : Type 0 where
  pub raw : List ℕ
  pub next : NextIs old raw (λ more. raw_lines (new.kept ++ more))
  pub short : length raw ≤ LINE_LIMIT
  pub text : line ≡ without_return raw

-- the next line is too long, wherever it ends
abbrev pub IsTooLong : Fed → Type 0
IsTooLong fed = (more : List ℕ) → (fed.finished ≡ true → more ≡ []) → (raw : List ℕ) × (lines : List (List ℕ)) × (LINE_LIMIT < length raw) × (raw_lines (fed.kept ++ more) ≡ raw ∷ lines)

-- why no line was given
abbrev pub GivesNone : LineStep → Fed → Type 0
GivesNone Line old = ⊥
GivesNone TooLong old = IsTooLong old
GivesNone NotYet old = (old.finished ≡ false) × (has_line_feed old.kept ≡ false) × (length old.kept ≤ LINE_LIMIT)
GivesNone Finished old = (old.finished ≡ true) × (old.kept ≡ [])

-- a step either gives the next line, or leaves what was kept and the line as they were
abbrev pub Steps : LineStep → Fed → Fed → List ℕ → List ℕ → Type 0
Steps Line old new line_before line = GivesLine old new line
Steps step old new line_before line = GivesNone step old × (new ≡ old) × (line ≡ line_before)

-- the first line of a text ends at this place
pub record IsLineEnd (text : List ℕ) (end : ℕ) : Type 0 where
  pub within : end < length text
  pub none : has_line_feed (take end text) ≡ false
  pub here : slice_index text end ≡ line_feed

-- none of the first bytes is a line feed, and they are at most one more than a line may have
pub record IsSearched (kept : List ℕ) (count : ℕ) : Type 0 where
  pub within : count ≤ length kept
  pub short : count ≤ LINE_LIMIT + 1
  pub none : has_line_feed (take count kept) ≡ false
