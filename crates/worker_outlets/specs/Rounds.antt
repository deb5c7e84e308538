-- A round over the elements of a list, one after the other.
use Rattle.std.specs.Prelude.{◌≡◌, ℕ, ◌<◌, ◌≤◌, Bool, false, true, List, length, slice_index_or}

-- each of the first i elements has P, each other one Q
pub record Swept {X : Type 0} (P Q : X → Type 0) (xs : List X) (i : ℕ) : Type 0 where
  pub done : (k : ℕ) (d : X) → k < i → k < length xs → P (slice_index_or xs k d)
  pub rest : (k : ℕ) (d : X) → i ≤ k → k < length xs → Q (slice_index_or xs k d)

-- The first i elements had their turn: each was kept, and either something moved with one of them or each rested. The
-- others are as they were.
pub record Round {X : Type 0} (Kept Rested Moves : X → X → Type 0) (old new : List X) (moved : Bool) (i : ℕ) : Type 0 where
  pub length_is : length new ≡ length old
  pub kept : (k : ℕ) (d : X) → k < i → k < length old → Kept (slice_index_or old k d) (slice_index_or new k d)
  pub rested : moved ≡ false → (k : ℕ) (d : X) → k < i → k < length old → Rested (slice_index_or old k d) (slice_index_or new k d)
  pub some : moved ≡ true → (k : ℕ) × (k < i) × (k < length old) × ((d : X) → Moves (slice_index_or old k d) (slice_index_or new k d))
  pub rest : (k : ℕ) (d : X) → i ≤ k → slice_index_or new k d ≡ slice_index_or old k d
