-- A pattern of some number of inputs keeps the key that its tests tie.
use Rattle.std.proofs.Common.{◌≡◌, ℕ, zero, suc, inl, inr, length, List, [], ◌∷◌, ◌++◌, Bool, true, false, cond, ◌&&◌, refl, ap, sym, ◌∙◌}
use Rattle.std.specs.Prelude.{Option, map, replicate, nat_lt}
use Rattle.std.specs.List.{flat_map, filter, AllByRecursion}
use Rattle.std.proofs.lemmas.List.Elements.{filter-append}
use Rattle.std.proofs.lemmas.List.Concat.{flat_map-append}
use Rattle.cedr_base.specs.declared.field.Field.{Field}
use Rattle.cedr_base.specs.declared.row.Row.{Row}
use Rattle.cedr_expr.specs.declared.test.Test.{Test}
use Rattle.cedr_table.specs.Operators.{Tables}
use Rattle.cedr_table.specs.Choices.{chosen}
use Rattle.pat_state.proofs.FlatLemmas.{flat_map-map}
use Rattle.pat_atleast.specs.Arrangements.{some_of}
use Rattle.pat_atleast.specs.AtLeasts.{put_in, by_begin, together, at_least, at_least_of}
use Rattle.plan_keys.specs.Keys.{KeyedPort, IsAnsweredByKey, IsTiedJoin, FitPorts, AreWide, AreOneKind, first_repeated, row_key, key_part, key_parts}
use Rattle.plan_keys.proofs.Ties.{RowsFit, keys_are_mine}
use Rattle.plan_keys.proofs.Chosen.{IsOfOneKey, chosen_keyed, all_append, all_mapped}
use Rattle.plan_keys.proofs.Joined.{sequence_one}

-- what is made of each choice of mapped things
some_mapped : {A B C : Type 0} (h : List B → List C) (f : A → B) (n : ℕ) (xs : List A) → flat_map h (some_of n (map f xs)) ≡ flat_map (λ ys. h (map f ys)) (some_of n xs)
some_mapped h f zero xs = refl
some_mapped h f (suc n) [] = refl
some_mapped h f (suc n) (x ∷ xs) =
    flat_map-append h (map (λ ys. f x ∷ ys) (some_of n (map f xs))) (some_of (suc n) (map f xs))
    ∙ (ap (λ zs. zs ++ flat_map h (some_of (suc n) (map f xs)))
    (flat_map-map h (λ ys. f x ∷ ys) (some_of n (map f xs)) ∙ (some_mapped (λ ys. h (f x ∷ ys)) f n xs ∙ sym (flat_map-map (λ ys. h (map f ys)) (λ ys. x ∷ ys) (some_of n xs))))
    ∙ (ap (λ zs. flat_map (λ ys. h (map f ys)) (map (λ ys. x ∷ ys) (some_of n xs)) ++ zs) (some_mapped h f (suc n) xs)
    ∙ sym (flat_map-append (λ ys. h (map f ys)) (map (λ ys. x ∷ ys) (some_of n xs)) (some_of (suc n) xs))))

-- where what is made of each element is a part of what is made of it otherwise, so is the whole
each_part : {X : Type 0} (P : X → Type 0) (q : Row → Bool) (f g : X → List Row) → ((x : X) → P x → f x ≡ filter q (g x)) → (xs : List X) → AllByRecursion P xs → flat_map f xs ≡ filter q (flat_map g xs)
each_part P q f g same [] have = refl
each_part P q f g same (x ∷ xs) have =
    ap (λ zs. zs ++ flat_map f xs) (same x have.0) ∙ (ap (λ zs. filter q (g x) ++ zs) (each_part P q f g same xs have.1) ∙ sym (filter-append q (g x) (flat_map g xs)))

module _ (p : KeyedPort) where
  -- each choice of so many tables has a table for each of so many ports
  pub some_fit : (n : ℕ) (tables : Tables) → AllByRecursion (AreWide p.width) tables → AllByRecursion (FitPorts (replicate n p)) (some_of n tables)
  some_fit zero tables wide = (tt, tt)
  some_fit (suc n) [] wide = tt
  some_fit (suc n) (t ∷ ts) wide =
      all_append (FitPorts (replicate (suc n) p)) (map (λ ys. t ∷ ys) (some_of n ts)) (some_of (suc n) ts)
      (all_mapped (FitPorts (replicate n p)) (FitPorts (replicate (suc n) p)) (λ (ys : Tables). t ∷ ys) (some_of n ts) (some_fit n ts wide.1) (λ ys fits. (wide.0, fits))) (some_fit (suc n) ts wide.1)

  repeated_parts : (mine : Option Field → Bool) (n : ℕ) (tables : Tables) → FitPorts (replicate n p) tables → map (key_part mine p.column) tables ≡ key_parts mine (replicate n p) tables
  repeated_parts mine zero [] fit = refl
  repeated_parts mine zero (t ∷ ts) fit = absurd fit
  repeated_parts mine (suc n) [] fit = absurd fit
  repeated_parts mine (suc n) (t ∷ ts) fit = ap (λ us. key_part mine p.column t ∷ us) (repeated_parts mine n ts fit.1)

  like_parts : (mine : Option Field → Bool) (ports : List KeyedPort) (tables : Tables) → AllByRecursion (λ (other : KeyedPort). other ≡ p) ports → FitPorts ports tables → key_parts mine ports tables ≡ map (key_part mine p.column) tables
  like_parts mine [] [] same fit = refl
  like_parts mine [] (t ∷ ts) same fit = absurd fit
  like_parts mine (q ∷ ports) [] same fit = absurd fit
  like_parts mine (q ∷ ports) (t ∷ ts) same fit =
      ap (λ (o : KeyedPort). key_part mine o.column t ∷ key_parts mine ports ts) same.0 ∙ ap (λ us. key_part mine p.column t ∷ us) (like_parts mine ports ts same.1 fit.1)

  like_wide : (ports : List KeyedPort) (tables : Tables) → AllByRecursion (λ (other : KeyedPort). other ≡ p) ports → FitPorts ports tables → AllByRecursion (AreWide p.width) tables
  like_wide [] [] same fit = tt
  like_wide [] (t ∷ ts) same fit = absurd fit
  like_wide (q ∷ ports) [] same fit = absurd fit
  like_wide (q ∷ ports) (t ∷ ts) same fit = (wide t fit.0, like_wide ports ts same.1 fit.1) where
    wide : (rows : List Row) → AreWide q.width rows → AreWide p.width rows
    wide [] have = tt
    wide (r ∷ rows) have = (have.0 ∙ ap (λ (o : KeyedPort). o.width) same.0, wide rows have.1)

  put_fit : (n : ℕ) (r : Row) (rows : List Row) → length r.payload ≡ p.width → RowsFit (replicate n p) rows → RowsFit (replicate (suc n) p) (put_in r rows)
  put_fit zero r [] wide fit = (wide, tt)
  put_fit zero r (e ∷ es) wide fit = absurd fit
  put_fit (suc n) r [] wide fit = absurd fit
  put_fit (suc n) r (e ∷ es) wide fit = one (nat_lt r.begin e.begin) (put_fit n r es wide fit.1) where
    one : (b : Bool) → RowsFit (replicate (suc n) p) (put_in r es) → RowsFit (replicate (suc (suc n)) p) (cond b (r ∷ e ∷ es) (e ∷ put_in r es))
    one true rest = (wide, fit)
    one false rest = (fit.0, rest)

  -- the rows in order of begin fit as they do
  pub ordered_fit : (n : ℕ) (rows : List Row) → RowsFit (replicate n p) rows → RowsFit (replicate n p) (by_begin rows)
  ordered_fit zero [] fit = tt
  ordered_fit zero (r ∷ rows) fit = absurd fit
  ordered_fit (suc n) [] fit = absurd fit
  ordered_fit (suc n) (r ∷ rows) fit = put_fit n r (by_begin rows) fit.0 (ordered_fit n rows fit.1)

  module _ (mine : Option Field → Bool) where
    abbrev is_mine : Row → Bool
    is_mine r = mine (row_key p.column r)

    swapped : (a b c : Bool) → b && (a && c) ≡ a && (b && c)
    swapped true true c = refl
    swapped true false c = refl
    swapped false true c = refl
    swapped false false c = refl

    put_mine : (n : ℕ) (r : Row) (rows : List Row) → RowsFit (replicate n p) rows → keys_are_mine mine (replicate (suc n) p) (put_in r rows) ≡ is_mine r && keys_are_mine mine (replicate n p) rows
    put_mine zero r [] fit = refl
    put_mine zero r (e ∷ es) fit = absurd fit
    put_mine (suc n) r [] fit = absurd fit
    put_mine (suc n) r (e ∷ es) fit = one (nat_lt r.begin e.begin) (put_mine n r es fit.1) where
      one : (b : Bool) → keys_are_mine mine (replicate (suc n) p) (put_in r es) ≡ is_mine r && keys_are_mine mine (replicate n p) es
          → keys_are_mine mine (replicate (suc (suc n)) p) (cond b (r ∷ e ∷ es) (e ∷ put_in r es)) ≡ is_mine r && keys_are_mine mine (replicate (suc n) p) (e ∷ es)
      one true rest = refl
      one false rest = ap (λ b. is_mine e && b) rest ∙ swapped (is_mine r) (is_mine e) (keys_are_mine mine (replicate n p) es)

    ordered_mine : (n : ℕ) (rows : List Row) → RowsFit (replicate n p) rows → keys_are_mine mine (replicate n p) (by_begin rows) ≡ keys_are_mine mine (replicate n p) rows
    ordered_mine zero [] fit = refl
    ordered_mine zero (r ∷ rows) fit = absurd fit
    ordered_mine (suc n) [] fit = absurd fit
    ordered_mine (suc n) (r ∷ rows) fit = put_mine n r (by_begin rows) (ordered_fit n rows fit.1) ∙ ap (λ b. is_mine r && b) (ordered_mine n rows fit.1)

  module _ (tests : List Test) (n scope c : ℕ) (tied : IsTiedJoin tests (replicate n p) c) where
    as_given : (rows : List Row) → RowsFit (replicate n p) rows → IsOfOneKey (replicate n p) c (by_begin rows) (together scope tests rows) → IsOfOneKey (replicate n p) c rows (together scope tests rows)
    as_given rows fit (inl none) = inl none
    as_given rows fit (inr have) = inr (have.0, (λ mine. sym (ordered_mine mine n rows fit) ∙ have.1 mine), have.2)

    together_one : (rows : List Row) → RowsFit (replicate n p) rows → IsOfOneKey (replicate n p) c rows (together scope tests rows)
    together_one rows fit = as_given rows fit (sequence_one tests (replicate n p) c tied scope (by_begin rows) (ordered_fit n rows fit))

    at_least_parts : (mine : Option Field → Bool) (tables : Tables) → AllByRecursion (AreWide p.width) tables → at_least n scope tests (map (key_part mine p.column) tables) ≡ key_part mine c (at_least n scope tests tables)
    at_least_parts mine tables wide =
        some_mapped (chosen (together scope tests)) (key_part mine p.column) n tables
        ∙ each_part (FitPorts (replicate n p)) (λ (r : Row). mine (row_key c r)) (λ ys. chosen (together scope tests) (map (key_part mine p.column) ys)) (chosen (together scope tests))
        (λ ys fits. ap (chosen (together scope tests)) (repeated_parts mine n ys fits) ∙ chosen_keyed (together scope tests) (replicate n p) c together_one mine ys fits) (some_of n tables) (some_fit n tables wide)

-- a pattern of so many inputs whose tests tie the key columns, whichever the inputs
pub at_least_keyed : (count n scope : ℕ) (tests : List Test) (ports : List KeyedPort) (c : ℕ) → AreOneKind ports → IsTiedJoin tests (first_repeated n ports) c → IsAnsweredByKey (at_least_of count n scope tests) ports c
at_least_keyed count n scope tests [] c same tied mine tables fit = let none = tied.column_is in cc
at_least_keyed count n scope tests (p ∷ ports) c same tied mine tables fit =
    ap (at_least n scope tests) (like_parts p mine (p ∷ ports) tables (refl, same) fit) ∙ at_least_parts p tests n scope c tied mine tables (like_wide p (p ∷ ports) tables (refl, same) fit)
