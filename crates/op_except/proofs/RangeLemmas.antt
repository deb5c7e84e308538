-- Rows that are gone through with the number of their copies.
use Rattle.std.proofs.Common.{◌≡◌, ℕ, zero, suc, ◌+◌, ◌<◌, ◌⊎◌, inl, inr, List, [], ◌∷◌, ◌++◌, Bool, true, false, Option, None, Some, refl, ap, sym, ◌∙◌, subst, arith, append_assoc, length, take, replicate}
use Rattle.std.specs.Prelude.{◌||◌}
use Rattle.std.specs.Option.{IsSome}
use Rattle.std.proofs.lemmas.List.{append-nil}
use Rattle.std.proofs.lemmas.List.Concat.{flat_map-append}
use Rattle.cedr_base.specs.declared.row.Row.{Row}
use Rattle.cedr_base.specs.declared.change.Change.{Change}
use Rattle.cedr_base.specs.Rows.{count_of}
use Rattle.cedr_base.proofs.Bags.{count_of-append}
use Rattle.change_laws.proofs.BagSums.{count_of-itself}
use Rattle.cedr_table.specs.Counted.{spread, AreThere}
use Rattle.filed_rows.specs.Filed.{FiledRows, all_under}

pub none_some : {A : Type 0} (o : Option A) → o ≡ None → IsSome o → ⊥
none_some None is some = absurd (cc)
none_some (Some x) is some = absurd (cc)

pub either_true : (a b : Bool) → (a || b) ≡ true → (a ≡ true) ⊎ (b ≡ true)
either_true true b is = inl refl
either_true false b is = inr is

some_copies : (n : Row) (k : ℕ) → 0 < k → 0 < count_of n (replicate k n)
some_copies n zero some = absurd (omega arith)
some_copies n (suc k) some = count_of-itself n (replicate k n)

module _ (n : Row) (k : ℕ) where
  -- the first of some rows, and the others
  first_spread : (rest : List (Row × ℕ)) → spread ((n, k) ∷ rest) ≡ replicate k n ++ spread rest
  first_spread rest = refl

  module _ (es rest : List (Row × ℕ)) (is : es ≡ (n, k) ∷ rest) where
    pub head_copies : AreThere es → 0 < k
    head_copies there = (subst AreThere is there).0

    pub tail_there : AreThere es → AreThere rest
    tail_there there = (subst AreThere is there).1

    pub head_in : AreThere es → 0 < count_of n (spread es)
    head_in there = let some = some_copies n k (head_copies there) in omega (arith, ap (λ (ds : List (Row × ℕ)). count_of n (spread ds)) is, count_of-append n (replicate k n) (spread rest), some)

    pub tail_in : (r : Row) → 0 < count_of r (spread rest) → 0 < count_of r (spread es)
    tail_in r there = omega (arith, ap (λ (ds : List (Row × ℕ)). count_of r (spread ds)) is, count_of-append r (replicate k n) (spread rest))

    pub further : (done all : List Row) → done ++ spread es ≡ all → (done ++ replicate k n) ++ spread rest ≡ all
    further done all h = append_assoc done (replicate k n) (spread rest) ∙ (ap (λ (ds : List (Row × ℕ)). done ++ spread ds) (sym is) ∙ h)

  module _ (es rest : List (Row × ℕ)) (is : es ≡ rest ++ (n, k) ∷ []) where
    last_spread : (r : Row) → count_of r (spread es) ≡ count_of r (spread rest) + count_of r (replicate k n)
    last_spread r =
        ap (λ (ds : List (Row × ℕ)). count_of r (spread ds)) is
        ∙ (ap (count_of r) (flat_map-append (λ (e : Row × ℕ). replicate e.1 e.0) rest ((n, k) ∷ []))
        ∙ omega (arith, count_of-append r (spread rest) (replicate k n ++ []), count_of-append r (replicate k n) []))

    last_parts : (rest : List (Row × ℕ)) → AreThere (rest ++ (n, k) ∷ []) → AreThere rest × (0 < k)
    last_parts [] there = (tt, there.0)
    last_parts (e ∷ rest) there = let h = last_parts rest there.1 in ((there.0, h.0), h.1)

    pub last_in : AreThere es → 0 < count_of n (spread es)
    last_in there = let some = some_copies n k (last_parts rest (subst AreThere is there)).1 in omega (arith, last_spread n, some)

    pub rest_there : AreThere es → AreThere rest
    rest_there there = (last_parts rest (subst AreThere is there)).0

    pub rest_in : (r : Row) → 0 < count_of r (spread rest) → 0 < count_of r (spread es)
    rest_in r there = omega (arith, last_spread r)

    pub rest_shorter : length rest < length es
    rest_shorter = omega (arith, ap (λ (ds : List (Row × ℕ)). length ds) is, longer rest)
      where
        longer : (ds : List (Row × ℕ)) → length (ds ++ (n, k) ∷ []) ≡ length ds + 1
        longer [] = refl
        longer (d ∷ ds) = omega (arith, longer ds)

pub all_done : (es : List (Row × ℕ)) (done all : List Row) → es ≡ [] → done ++ spread es ≡ all → done ≡ all
all_done es done all none h = sym (append-nil done) ∙ (ap (λ (ds : List (Row × ℕ)). done ++ spread ds) (sym none) ∙ h)

pub in_all : (es : List (Row × ℕ)) (done all : List Row) (r : Row) → done ++ spread es ≡ all → 0 < count_of r (spread es) → 0 < count_of r all
in_all es done all r h there = omega (arith, count_of-append r done (spread es), ap (count_of r) h)

module _ (tag : ℕ) (rows : List Row) (es rest : FiledRows) (is : es ≡ (tag, rows) ∷ rest) where
  under_count : (r : Row) → count_of r (all_under es) ≡ count_of r rows + count_of r (all_under rest)
  under_count r = ap (λ (ds : FiledRows). count_of r (all_under ds)) is ∙ count_of-append r rows (all_under rest)

  pub head_under : (r : Row) → 0 < count_of r rows → 0 < count_of r (all_under es)
  head_under r there = omega (arith, under_count r)

  pub tail_under : (r : Row) → 0 < count_of r (all_under rest) → 0 < count_of r (all_under es)
  tail_under r there = omega (arith, under_count r)

  pub under_further : (done all : List Row) → done ++ all_under es ≡ all → (done ++ rows) ++ all_under rest ≡ all
  under_further done all h = append_assoc done rows (all_under rest) ∙ (ap (λ (ds : FiledRows). done ++ all_under ds) (sym is) ∙ h)

pub under_done : (es : FiledRows) (done all : List Row) → es ≡ [] → done ++ all_under es ≡ all → done ≡ all
under_done es done all none h = sym (append-nil done) ∙ (ap (λ (ds : FiledRows). done ++ all_under ds) (sym none) ∙ h)

pub in_under : (es : FiledRows) (done all : List Row) (r : Row) → done ++ all_under es ≡ all → 0 < count_of r (all_under es) → 0 < count_of r all
in_under es done all r h there = omega (arith, count_of-append r done (all_under es), ap (count_of r) h)

-- ---- what a list of changes has kept
same_head : (x y : Change) (xs ys : List Change) → x ∷ xs ≡ y ∷ ys → x ≡ y
same_head x y xs ys is = cc

same_tail : (x y : Change) (xs ys : List Change) → x ∷ xs ≡ y ∷ ys → xs ≡ ys
same_tail x y xs ys is = cc

-- a list that begins with one that begins with another one begins with that
pub kept_along : (a b c : List Change) → take (length a) b ≡ a → take (length b) c ≡ b → take (length a) c ≡ a
kept_along [] b c h k = refl
kept_along (x ∷ a) [] c h k = absurd (let size = ap (λ (cs : List Change). length cs) h in omega (arith, size))
kept_along (x ∷ a) (y ∷ b) [] h k = absurd (let size = ap (λ (cs : List Change). length cs) k in omega (arith, size))
kept_along (x ∷ a) (y ∷ b) (z ∷ c) h k =
    let first = same_head z y (take (length b) c) b k ∙ same_head y x (take (length a) b) a h in
    let rest = kept_along a b c (same_tail y x (take (length a) b) a h) (same_tail z y (take (length b) c) b k) in
    λ i. first i ∷ rest i

pub kept_more : (a b : List Change) → take (length a) (a ++ b) ≡ a
kept_more [] b = refl
kept_more (x ∷ a) b = ap (λ (cs : List Change). x ∷ cs) (kept_more a b)

pub kept_itself : (a : List Change) → take (length a) a ≡ a
kept_itself [] = refl
kept_itself (x ∷ a) = ap (λ (cs : List Change). x ∷ cs) (kept_itself a)
