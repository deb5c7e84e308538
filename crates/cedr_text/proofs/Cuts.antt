-- The first field of a line, by the place of the first comma.
use Rattle.std.proofs.Common.{◌≡◌, ℕ, zero, suc, ◌+◌, ◌-◌, ◌<◌, ◌≤◌, List, [], ◌∷◌, Bool, true, false, length, get_or, take, drop, cond, refl, ap, ◌∙◌, arith}
use Rattle.std.specs.List.{slice_split, onto_first}
use Rattle.std.proofs.lemmas.List.Splits.{slice_split-cons_yes, slice_split-cons_no, length-slice_split}
use Rattle.std.proofs.lemmas.List.Sums.{count_by-le-length}
use Rattle.std.proofs.lemmas.Bool.{false_from_ne_true}
use Rattle.std.proofs.lemmas.List.{take_all, length-drop}

module _ (p : ℕ → Bool) where
  -- where the first element that passes stands at this place, the first part ends there
  pub first_part : (text : List ℕ) (at : ℕ) → at < length text → ((k : ℕ) → k < at → p (get_or text k 0) ≡ true → ⊥) → p (get_or text at 0) ≡ true
      → slice_split p text ≡ take at text ∷ slice_split p (drop (suc at) text)
  first_part [] at within before here = absurd (omega arith)
  first_part (b ∷ text) zero within before here = slice_split-cons_yes p b text here
  first_part (b ∷ text) (suc at) within before here =
      slice_split-cons_no p b text (false_from_ne_true (p b) (before 0 (omega arith))) ∙ ap (onto_first b) (first_part text at (omega arith) (λ k low. before (suc k) (omega arith)) here)

  -- where none passes there is one part
  pub only_part : (text : List ℕ) → ((k : ℕ) → k < length text → p (get_or text k 0) ≡ true → ⊥) → slice_split p text ≡ text ∷ []
  only_part [] none = refl
  only_part (b ∷ text) none =
      slice_split-cons_no p b text (false_from_ne_true (p b) (none 0 (omega arith))) ∙ ap (onto_first b) (only_part text (λ k low. none (suc k) (omega arith)))

  onto_some : (b : ℕ) (parts : List (List ℕ)) → onto_first b parts ≡ [] → ⊥
  onto_some b [] none = cc
  onto_some b (part ∷ parts) none = cc

  cut_some : (cut : Bool) (b : ℕ) (parts : List (List ℕ)) → cond cut ([] ∷ parts) (onto_first b parts) ≡ [] → ⊥
  cut_some true b parts none = cc
  cut_some false b parts none = onto_some b parts none

  -- there is always a part
  pub some_part : (text : List ℕ) → slice_split p text ≡ [] → ⊥
  some_part [] none = cc
  some_part (b ∷ text) none = cut_some (p b) b (slice_split p text) none

  -- there is at most one part more than bytes
  pub few_parts : (text : List ℕ) → length (slice_split p text) ≤ length text + 1
  few_parts text = omega (arith, length-slice_split p text, count_by-le-length p text)

-- the whole of what stands from a place on, as a slice of the code has it
pub rest_from : (text : List ℕ) (at : ℕ) → take (length text - at) (drop at text) ≡ drop at text
rest_from text at = take_all (length text - at) (drop at text) (omega (arith, length-drop at text))
