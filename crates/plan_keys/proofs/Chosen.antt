-- Choices of one row of each port, where the chosen rows have one key.
use Rattle.std.proofs.Common.{◌≡◌, ℕ, ◌⊎◌, inl, inr, length, List, [], ◌∷◌, ◌++◌, Bool, true, false, cond, ◌&&◌, refl, ap, sym, ◌∙◌}
use Rattle.std.specs.Prelude.{Option, map}
use Rattle.std.specs.List.{flat_map, filter, AllByRecursion}
use Rattle.cedr_base.specs.declared.field.Field.{Field}
use Rattle.cedr_base.specs.declared.row.Row.{Row}
use Rattle.cedr_table.specs.Operators.{Tables}
use Rattle.cedr_table.specs.Choices.{choices, chosen}
use Rattle.plan_keys.specs.Keys.{KeyedPort, FitPorts, row_key, key_part, key_parts}
use Rattle.plan_keys.proofs.Parts.{HaveKey, parted, all_mine, none_mine}
use Rattle.plan_keys.proofs.Ties.{RowsFit, keys_are_mine}

-- what holds of each element of two lists holds of each of both
pub all_append : {X : Type 0} (P : X → Type 0) (xs ys : List X) → AllByRecursion P xs → AllByRecursion P ys → AllByRecursion P (xs ++ ys)
all_append P [] ys have more = more
all_append P (x ∷ xs) ys have more = (have.0, all_append P xs ys have.1 more)

-- what holds of all that each element makes
pub all_made : {X Y : Type 0} (Q : X → Type 0) (P : Y → Type 0) (f : X → List Y) (xs : List X) → AllByRecursion Q xs → ((x : X) → Q x → AllByRecursion P (f x)) → AllByRecursion P (flat_map f xs)
all_made Q P f [] have each = tt
all_made Q P f (x ∷ xs) have each = all_append P (f x) (flat_map f xs) (each x have.0) (all_made Q P f xs have.1 each)

-- what holds of each mapped element
pub all_mapped : {X Y : Type 0} (Q : X → Type 0) (P : Y → Type 0) (f : X → Y) (xs : List X) → AllByRecursion Q xs → ((x : X) → Q x → P (f x)) → AllByRecursion P (map f xs)
all_mapped Q P f [] have each = tt
all_mapped Q P f (x ∷ xs) have each = (each x have.0, all_mapped Q P f xs have.1 each)

-- the rows of a choice have the widths of the ports
pub choices_fit : (ports : List KeyedPort) (tables : Tables) → FitPorts ports tables → AllByRecursion (RowsFit ports) (choices tables)
choices_fit [] [] fit = (tt, tt)
choices_fit [] (t ∷ ts) fit = absurd fit
choices_fit (p ∷ ports) [] fit = absurd fit
choices_fit (p ∷ ports) (t ∷ ts) fit =
    all_made (λ (r : Row). length r.payload ≡ p.width) (RowsFit (p ∷ ports)) (λ r. map (λ rs. r ∷ rs) (choices ts)) t fit.0
    (λ r wide. all_mapped (RowsFit ports) (RowsFit (p ∷ ports)) (λ (rs : List Row). r ∷ rs) (choices ts) (choices_fit ports ts fit.1) (λ rs fits. (wide, fits)))

first_passes : (r : Row) (rs : List Row) (xs ys : List (List Row)) (a b : Bool) → a ≡ true → map (λ rs. r ∷ rs) xs ≡ ys → map (λ rs. r ∷ rs) (cond b (rs ∷ xs) xs) ≡ cond (a && b) ((r ∷ rs) ∷ ys) ys
first_passes r rs xs ys true true h e = ap (λ zs. (r ∷ rs) ∷ zs) e
first_passes r rs xs ys true false h e = e
first_passes r rs xs ys false b h e = cc

first_fails : (r : Row) (rs : List Row) (ys : List (List Row)) (a b : Bool) → a ≡ false → [] ≡ ys → [] ≡ cond (a && b) ((r ∷ rs) ∷ ys) ys
first_fails r rs ys true b h e = cc
first_fails r rs ys false b h e = e

module _ (mine : Option Field → Bool) (p : KeyedPort) (ports : List KeyedPort) (r : Row) where
  put_before : mine (row_key p.column r) ≡ true → (cs : List (List Row)) → map (λ rs. r ∷ rs) (filter (keys_are_mine mine ports) cs) ≡ filter (keys_are_mine mine (p ∷ ports)) (map (λ rs. r ∷ rs) cs)
  put_before h [] = refl
  put_before h (rs ∷ cs) = first_passes r rs (filter (keys_are_mine mine ports) cs) (filter (keys_are_mine mine (p ∷ ports)) (map (λ rs. r ∷ rs) cs)) (mine (row_key p.column r)) (keys_are_mine mine ports rs) h (put_before h cs)

  none_before : mine (row_key p.column r) ≡ false → (cs : List (List Row)) → [] ≡ filter (keys_are_mine mine (p ∷ ports)) (map (λ rs. r ∷ rs) cs)
  none_before h [] = refl
  none_before h (rs ∷ cs) = first_fails r rs (filter (keys_are_mine mine (p ∷ ports)) (map (λ rs. r ∷ rs) cs)) (mine (row_key p.column r)) (keys_are_mine mine ports rs) h (none_before h cs)

-- the choices of the parts' rows are the choices whose keys are all mine
pub choices_of_parts : (mine : Option Field → Bool) (ports : List KeyedPort) (tables : Tables) → FitPorts ports tables → choices (key_parts mine ports tables) ≡ filter (keys_are_mine mine ports) (choices tables)
choices_of_parts mine [] [] fit = refl
choices_of_parts mine [] (t ∷ ts) fit = absurd fit
choices_of_parts mine (p ∷ ports) [] fit = absurd fit
choices_of_parts mine (p ∷ ports) (t ∷ ts) fit =
    ap (λ (cs : List (List Row)). flat_map (λ r. map (λ rs. r ∷ rs) cs) (key_part mine p.column t)) (choices_of_parts mine ports ts fit.1)
    ∙ parted (λ (r : Row). length r.payload ≡ p.width) (λ r. map (λ rs. r ∷ rs) (filter (keys_are_mine mine ports) (choices ts))) (λ r. map (λ rs. r ∷ rs) (choices ts)) (λ (r : Row). mine (row_key p.column r)) (keys_are_mine mine (p ∷ ports))
    (λ r wide h. put_before mine p ports r h (choices ts)) (λ r wide h. none_before mine p ports r h (choices ts)) t fit.0

-- a choice gives no row, or its rows have one key, which stands in the key column of the rows that it gives
abbrev pub IsOfOneKey : List KeyedPort → ℕ → List Row → List Row → Type 0
IsOfOneKey ports column rs given = (given ≡ []) ⊎ ((key : Option Field) × ((mine : Option Field → Bool) → keys_are_mine mine ports rs ≡ mine key) × HaveKey column key given)

module _ (mine : Option Field → Bool) (ports : List KeyedPort) (column : ℕ) (rs given : List Row) where
  -- what a choice of my keys gives is all in the part
  pub given_mine : IsOfOneKey ports column rs given → keys_are_mine mine ports rs ≡ true → given ≡ key_part mine column given
  given_mine (inl none) h = none ∙ sym (ap (key_part mine column) none)
  given_mine (inr have) h = all_mine mine column have.0 given have.2 (sym (have.1 mine) ∙ h)

  -- and of what another choice gives nothing is
  pub given_others : IsOfOneKey ports column rs given → keys_are_mine mine ports rs ≡ false → [] ≡ key_part mine column given
  given_others (inl none) h = sym (ap (key_part mine column) none)
  given_others (inr have) h = none_mine mine column have.0 given have.2 (sym (have.1 mine) ∙ h)

-- where each choice gives rows of one key, what the parts give is the part of what is given
pub chosen_keyed : (image : List Row → List Row) (ports : List KeyedPort) (column : ℕ) → ((rs : List Row) → RowsFit ports rs → IsOfOneKey ports column rs (image rs)) → (mine : Option Field → Bool) (tables : Tables) → FitPorts ports tables
    → chosen image (key_parts mine ports tables) ≡ key_part mine column (chosen image tables)
chosen_keyed image ports column of_one mine tables fit =
    ap (flat_map image) (choices_of_parts mine ports tables fit)
    ∙ parted (RowsFit ports) image image (keys_are_mine mine ports) (λ (r : Row). mine (row_key column r))
    (λ rs fits h. given_mine mine ports column rs (image rs) (of_one rs fits) h) (λ rs fits h. given_others mine ports column rs (image rs) (of_one rs fits) h) (choices tables) (choices_fit ports tables fit)
