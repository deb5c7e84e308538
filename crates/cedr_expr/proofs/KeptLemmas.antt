-- Kept columns, one more at a time, and of lists of types.
use Rattle.std.proofs.Common.{◌≡◌, ℕ, ◌+◌, ◌<◌, List, [], ◌∷◌, ◌++◌, length, map, take, get_or, slice_index, Option, None, Some, refl, ap, sym, ◌∙◌, arith, suc, append_assoc}
use Rattle.std.specs.Option.{option_map}
use Rattle.std.specs.List.{slice_get, cons_option}
use Rattle.std.proofs.lemmas.List.{take_more, length-append}
use Rattle.std.proofs.Math.Seq.{get_or-append_seam}
use Rattle.std.proofs.lemmas.List.Elements.{filter_map-append}
use Rattle.std.proofs.lemmas.Option.{slice_get-get_or, slice_get-map, slice_get_read}
use Rattle.cedr_expr.specs.Columns.{kept_columns}

-- what is kept at one more place comes after what is kept at those before it
pub kept_more : {X : Type 0} (places : List ℕ) (xs : List X) (i : ℕ) → i < length places → kept_columns (take (i + 1) places) xs ≡ kept_columns (take i places) xs ++ kept_columns (get_or places i 0 ∷ []) xs
kept_more places xs i within =
    ap (λ front. kept_columns front xs) (take_more places i 0 within)
    ∙ filter_map-append (slice_get xs) (take i places) (get_or places i 0 ∷ [])

map-cons_option : {X Y : Type 0} (f : X → Y) (o : Option X) (xs : List X) → map f (cons_option o xs) ≡ cons_option (option_map f o) (map f xs)
map-cons_option f None xs = refl
map-cons_option f (Some x) xs = refl

-- what is kept of a list that was mapped is what is kept of the list, mapped
pub kept-map : {X Y : Type 0} (f : X → Y) (places : List ℕ) (xs : List X) → map f (kept_columns places xs) ≡ kept_columns places (map f xs)
kept-map f [] xs = refl
kept-map f (place ∷ places) xs =
    map-cons_option f (slice_get xs place) (kept_columns places xs)
    ∙ ap (λ rest. cons_option (option_map f (slice_get xs place)) rest) (kept-map f places xs)
    ∙ ap (λ first. cons_option first (kept_columns places (map f xs))) (sym (slice_get-map f xs place))

-- of places that are all there, each is kept
pub length-kept : {X : Type 0} (d : X) (places : List ℕ) (xs : List X) → ((k : ℕ) → k < length places → get_or places k 0 < length xs) → length (kept_columns places xs) ≡ length places
length-kept d [] xs within = refl
length-kept d (place ∷ places) xs within =
    ap (λ first. length (cons_option first (kept_columns places xs))) (slice_get-get_or xs place d (within 0 (omega arith)))
    ∙ ap (λ n. suc n) (length-kept d places xs (λ k low. within (suc k) (omega (arith, low))))

-- of all columns of a list behind another one, each in its place, the list itself is kept
kept_behind : {X : Type 0} (before : List X) (places : List ℕ) (xs : List X) → length places ≡ length xs → ((k : ℕ) → k < length places → get_or places k 0 ≡ length before + k) → kept_columns places (before ++ xs) ≡ xs
kept_behind before [] [] same in_place = refl
kept_behind before [] (x ∷ xs) same in_place = absurd cc
kept_behind before (place ∷ places) [] same in_place = absurd cc
kept_behind before (place ∷ places) (x ∷ xs) same in_place =
    let here : place ≡ length before = in_place 0 (omega arith) ∙ omega arith in
    let first : slice_get (before ++ x ∷ xs) place ≡ Some x =
    ap (slice_get (before ++ x ∷ xs)) here
    ∙ slice_get_read (before ++ x ∷ xs) (length (before ++ x ∷ xs)) (length before) x refl (omega (arith, length-append before (x ∷ xs))) (sym (get_or-append_seam before x xs x)) in
    let moved : before ++ x ∷ xs ≡ (before ++ x ∷ []) ++ xs = sym (append_assoc before (x ∷ []) xs) in
    ap (λ o. cons_option o (kept_columns places (before ++ x ∷ xs))) first
    ∙ ap (λ rest. x ∷ rest)
    (ap (kept_columns places) moved
    ∙ kept_behind (before ++ x ∷ []) places xs (omega (arith, same)) (λ k low. in_place (suc k) (omega (arith, low)) ∙ omega (arith, length-append before (x ∷ []))))

-- of all columns of a list, each in its place, the list itself is kept
pub kept_whole : {X : Type 0} (places : List ℕ) (xs : List X) → length places ≡ length xs → ((k : ℕ) → k < length places → slice_index places k ≡ k) → kept_columns places xs ≡ xs
kept_whole places xs same in_place = kept_behind [] places xs same (λ k low. in_place k low ∙ omega arith)
