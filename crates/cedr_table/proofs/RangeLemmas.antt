-- The part of a bag that lies within a range.
use Rattle.std.proofs.Common.{◌≡◌, ℕ, zero, suc, ◌<◌, List, [], ◌∷◌, ◌++◌, Bool, true, false, cond, Some, Option, refl, ap, sym, ◌∙◌, arith, ◌≢◌}
use Rattle.std.specs.Prelude.{replicate}
use Rattle.std.specs.List.{filter, All}
use Rattle.std.specs.BTreeMap.{BTreeMap, get}
use Rattle.std.specs.BTreeMap.Range.{IsEntryInRange}
use Rattle.std.specs.declared.ops.Bound.{Bound}
use Rattle.std.proofs.lemmas.List.Elements.{filter-append, All-head, All-tail}
use Rattle.cedr_base.specs.declared.row.Row.{Row}
use Rattle.cedr_base.specs.Rows.{row_cmp}
use Rattle.cedr_table.specs.Counted.{spread, EachIsThere, AreThere}

filter_copies : (p : Row → Bool) (n : ℕ) (x : Row) (b : Bool) → p x ≡ b → filter p (replicate n x) ≡ cond b (replicate n x) []
filter_copies p zero x true h = refl
filter_copies p zero x false h = refl
filter_copies p (suc n) x true h = ap (λ c. cond c (x ∷ filter p (replicate n x)) (filter p (replicate n x))) h ∙ ap (λ rows. x ∷ rows) (filter_copies p n x true h)
filter_copies p (suc n) x false h = ap (λ c. cond c (x ∷ filter p (replicate n x)) (filter p (replicate n x))) h ∙ filter_copies p n x false h

one_entry : (p : Row → Bool) (e : Row × ℕ) (es : List (Row × ℕ)) (b : Bool) → p e.0 ≡ b → spread (cond b (e ∷ es) es) ≡ filter p (replicate e.1 e.0) ++ spread es
one_entry p e es true h = ap (λ rows. rows ++ spread es) (sym (filter_copies p e.1 e.0 true h))
one_entry p e es false h = ap (λ rows. rows ++ spread es) (sym (filter_copies p e.1 e.0 false h))

-- a test of the keys is a test of the rows
pub spread_filter : (p : Row → Bool) (es : List (Row × ℕ)) → spread (filter (λ e. p e.0) es) ≡ filter p (spread es)
spread_filter p [] = refl
spread_filter p (e ∷ es) =
    one_entry p e (filter (λ e. p e.0) es) (p e.0) refl
    ∙ (ap (λ rows. filter p (replicate e.1 e.0) ++ rows) (spread_filter p es)
    ∙ sym (filter-append p (replicate e.1 e.0) (spread es)))

some_copies : (n : ℕ) (o : Option ℕ) → o ≡ Some n → o ≢ Some 0 → 0 < n
some_copies zero o is there = absurd (there is)
some_copies (suc n) o is there = omega arith

-- of each entry of a part there is a copy
pub part_there : (lo hi : Bound Row) (m : BTreeMap Row ℕ) (es : List (Row × ℕ)) → EachIsThere m.entries → All (IsEntryInRange row_cmp lo hi m) es → AreThere es
part_there lo hi m [] there are = tt
part_there lo hi m (e ∷ es) there are =
    (some_copies e.1 (get row_cmp m e.0) (All-head (IsEntryInRange row_cmp lo hi m) e es are).1 (there e.0), part_there lo hi m es there (All-tail (IsEntryInRange row_cmp lo hi m) e es are))
