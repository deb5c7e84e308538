-- Lists of fields that may be there, item by item.
use Rattle.std.proofs.Common.{◌≡◌, ℕ, suc, ◌+◌, ◌<◌, List, [], ◌∷◌, ◌++◌, length, map, replicate, take, get_or, refl, ap, sym, ◌∙◌, arith}
use Rattle.std.specs.Prelude.{Option, None}
use Rattle.std.specs.List.{filter_map, cons_option}
use Rattle.std.proofs.Math.Seq.{take-suc}
use Rattle.std.proofs.lemmas.List.Elements.{filter_map-append}
use Rattle.cedr_base.specs.declared.field.Field.{Field}

-- one more of the fields that may be there
pub next_there : (xs : List (Option Field)) (i : ℕ) (o : Option Field) → i < length xs → o ≡ get_or xs i o → filter_map (λ (x : Option Field). x) (take (i + 1) xs) ≡ filter_map (λ (x : Option Field). x) (take i xs) ++ cons_option o []
next_there xs i o less is =
    let one : take (suc i) xs ≡ take i xs ++ (o ∷ []) = take-suc xs i o less ∙ ap (λ x. take i xs ++ (x ∷ [])) (sym is) in
    let more : i + 1 ≡ suc i = omega arith in
    ap (λ n. filter_map (λ (x : Option Field). x) (take n xs)) more ∙ (ap (filter_map (λ (x : Option Field). x)) one ∙ filter_map-append (λ (x : Option Field). x) (take i xs) (o ∷ []))

-- a field that is never there
pub nones : (f : ℕ → Option Field) → ((column : ℕ) → f column ≡ None) → (columns : List ℕ) → map f columns ≡ replicate (length columns) None
nones f h [] = refl
nones f h (column ∷ columns) =
    let more : length (column ∷ columns) ≡ suc (length columns) = omega arith in
    ap (λ o. o ∷ map f columns) (h column) ∙ (ap (λ os. None ∷ os) (nones f h columns) ∙ ap (λ n. replicate n None) (sym more))
