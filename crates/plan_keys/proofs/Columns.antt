-- Kept columns stand where they were asked for.
use Rattle.std.proofs.Common.{◌≡◌, ℕ, ◌<◌, zero, suc, arith, length, List, [], ◌∷◌, refl, ap, sym, ◌∙◌}
use Rattle.std.specs.Prelude.{Some, unwrap_or}
use Rattle.std.specs.List.{slice_get, cons_option, AllByRecursion}
use Rattle.cedr_expr.specs.Columns.{kept_columns}

-- a place within a list has an element
pub there : {X : Type 0} (xs : List X) (k : ℕ) → k < length xs → (x : X) × (slice_get xs k ≡ Some x)
there [] k h = absurd (omega arith)
there (x ∷ xs) zero h = (x, refl)
there (x ∷ xs) (suc k) h = there xs k (omega arith)

-- a kept column has the field of the column that it keeps
pub kept_at : {X : Type 0} (columns : List ℕ) (xs : List X) (width column c : ℕ) → length xs ≡ width → AllByRecursion (λ k. k < width) columns → slice_get columns column ≡ Some c → slice_get (kept_columns columns xs) column ≡ slice_get xs c
kept_at [] xs width column c wide within e = cc
kept_at (k ∷ columns) xs width zero c wide within e =
    let inside = within.0 in
    let field = there xs k (omega arith) in
    ap (λ o. slice_get (cons_option o (kept_columns columns xs)) 0) field.1 ∙ (sym field.1 ∙ ap (λ (n : ℕ). slice_get xs n) (ap (λ o. unwrap_or o 0) e))
kept_at (k ∷ columns) xs width (suc column) c wide within e =
    let inside = within.0 in
    let field = there xs k (omega arith) in
    ap (λ o. slice_get (cons_option o (kept_columns columns xs)) (suc column)) field.1 ∙ kept_at columns xs width column c wide within.1 e

-- and there are as many of them as columns
pub kept_length : {X : Type 0} (columns : List ℕ) (xs : List X) (width : ℕ) → length xs ≡ width → AllByRecursion (λ k. k < width) columns → length (kept_columns columns xs) ≡ length columns
kept_length [] xs width wide within = refl
kept_length (k ∷ columns) xs width wide within =
    let inside = within.0 in
    let field = there xs k (omega arith) in
    ap (λ o. length (cons_option o (kept_columns columns xs))) field.1 ∙ ap (λ n. suc n) (kept_length columns xs width wide within.1)
