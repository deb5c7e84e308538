-- The rows of a counted bag stand in canonical order.
use Rattle.std.proofs.Common.{◌≡◌, ℕ, zero, suc, ◌<◌, inl, inr, List, [], ◌∷◌, ◌++◌, true, cond, Some, refl, ap, sym, ◌∙◌, subst, arith}
use Rattle.std.specs.Prelude.{unwrap_or}
use Rattle.std.specs.List.{slice_get}
use Rattle.std.specs.Map.{lookup}
use Rattle.std.specs.BTreeMap.{is_at}
use Rattle.std.proofs.lemmas.Bool.{cases_lt}
use Rattle.cedr_base.proofs.Bags.{count_of-cons, one_of_itself, one_if_same_exact}
use Rattle.std.specs.Prelude.{replicate}
use Rattle.std.specs.List.{AllByRecursion}
use Rattle.std.specs.List.Sorted.{IsStrictlySortedBy}
use Rattle.std.specs.Map.{keys_of}
use Rattle.std.specs.Ordering.{is_le, is_eq}
use Rattle.std.specs.declared.cmp.Ordering.TheVariants.{Less}
use Rattle.std.proofs.lemmas.Cmp.{tied_itself}
use Rattle.cedr_base.specs.declared.row.Row.{Row}
use Rattle.cedr_base.specs.Rows.{row_cmp, count_of, put_in_order, in_order}
use Rattle.cedr_base.specs.RowLaws.{row_total}
use Rattle.cedr_table.specs.Counted.{spread, EachIsThere, IsFirst}

-- no row of a list stands before this one
abbrev IsLeast : Row → List Row → Type 0
IsLeast x rows = AllByRecursion (λ y. is_le (row_cmp x y) ≡ true) rows

-- a row that is least comes first
put_least : (x : Row) (rows : List Row) → IsLeast x rows → put_in_order x rows ≡ x ∷ rows
put_least x [] h = refl
put_least x (y ∷ ys) h = ap (λ b. cond b (x ∷ y ∷ ys) (y ∷ put_in_order x ys)) h.0

least_copies : (x y : Row) (n : ℕ) (rows : List Row) → is_le (row_cmp x y) ≡ true → IsLeast x rows → IsLeast x (replicate n y ++ rows)
least_copies x y zero rows low h = h
least_copies x y (suc n) rows low h = (low, least_copies x y n rows low h)

least_spread : (x : Row) (es : List (Row × ℕ)) → AllByRecursion (λ y. row_cmp x y ≡ Less) (keys_of es) → IsLeast x (spread es)
least_spread x [] h = tt
least_spread x (e ∷ es) h = least_copies x e.0 e.1 (spread es) (ap is_le h.0) (least_spread x es h.1)

copies_first : (x : Row) (n : ℕ) (rows : List Row) → IsLeast x rows → in_order rows ≡ rows → in_order (replicate n x ++ rows) ≡ replicate n x ++ rows
copies_first x zero rows least h = h
copies_first x (suc n) rows least h =
    ap (put_in_order x) (copies_first x n rows least h)
    ∙ put_least x (replicate n x ++ rows) (least_copies x x n rows (ap is_le (tied_itself row_total x)) least)

-- the rows of a map that ascends are in order
pub spread_in_order : (es : List (Row × ℕ)) → IsStrictlySortedBy row_cmp (keys_of es) → in_order (spread es) ≡ spread es
unfolding IsStrictlySortedBy
spread_in_order [] h = refl
spread_in_order (e ∷ es) h = copies_first e.0 e.1 (spread es) (least_spread e.0 es h.0) (spread_in_order es h.1)

first_there_at : (e : Row × ℕ) (n : ℕ) (es : List (Row × ℕ)) → e.1 ≡ n → EachIsThere (e ∷ es) → 0 < count_of e.0 (replicate n e.0 ++ spread es)
first_there_at e zero es is there =
    let here : lookup (is_at (row_cmp e.0)) (e ∷ es) ≡ Some e.1 = ap (λ b. cond b (Some e.1) (lookup (is_at (row_cmp e.0)) es)) (ap is_eq (tied_itself row_total e.0)) in
    absurd (there e.0 (here ∙ ap (λ m. Some m) is))
first_there_at e (suc n) es is there = omega (arith, count_of-cons e.0 e.0 (replicate n e.0 ++ spread es), one_of_itself e.0)

first_there : (e : Row × ℕ) (es : List (Row × ℕ)) → EachIsThere (e ∷ es) → 0 < count_of e.0 (spread (e ∷ es))
first_there e es there = first_there_at e e.1 es refl there

-- what is least stands after no row that is there
least_there : (x r : Row) (rows : List Row) → IsLeast x rows → 0 < count_of r rows → is_le (row_cmp x r) ≡ true
least_there x r [] h there = absurd (omega arith)
least_there x r (y ∷ ys) h there = elim (cases_lt 0 (count_of r ys)) [
  | inl later ↦ least_there x r ys h.1 later
  | inr here ↦ subst (λ (z : Row). is_le (row_cmp x z) ≡ true) (sym (one_if_same_exact r y (omega (arith, count_of-cons r y ys)))) h.0
]

-- the first row of a map that ascends is the first of its bag
pub first_of_map : (es : List (Row × ℕ)) (row : Row) (n : ℕ) → IsStrictlySortedBy row_cmp (keys_of es) → EachIsThere es → slice_get es 0 ≡ Some (row, n) → IsFirst row (spread es)
unfolding IsStrictlySortedBy
first_of_map [] row n ordered there at = cc
first_of_map (e ∷ es) row n ordered there at =
    let is : e ≡ (row, n) = ap (λ o. unwrap_or o e) at in
    let row_is : e.0 ≡ row = ap (λ (p : Row × ℕ). p.0) is in
    subst (λ (x : Row). IsFirst x (spread (e ∷ es))) row_is (record {
      there = first_there e es there;
      least = λ r is_there. least_there e.0 r (spread (e ∷ es)) (least_copies e.0 e.0 e.1 (spread es) (ap is_le (tied_itself row_total e.0)) (least_spread e.0 es ordered.0)) is_there;
    })
