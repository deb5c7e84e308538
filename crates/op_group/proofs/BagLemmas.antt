-- What comes to a bag of fields and goes from it.
use Rattle.std.proofs.Common.{◌≡◌, ℕ, suc, ◌+◌, ◌<◌, List, [], ◌∷◌, ◌++◌, length, take, get_or, refl, ap, sym, ◌∙◌, subst, arith}
use Rattle.std.specs.Prelude.{Option, None, Some, option_map, nat_eq, not}
use Rattle.std.specs.List.{slice_get, cons_option, list_any}
use Rattle.std.proofs.Math.Seq.{take-suc}
use Rattle.std.proofs.lemmas.List.Sums.{sum_by-cons, sum_by-append}
use Rattle.std.proofs.lemmas.List.Elements.{filter-append, filter_map-append}
use Rattle.cedr_base.specs.declared.field.Field.{Field}
use Rattle.cedr_base.specs.declared.row.Row.{Row}
use Rattle.cedr_living.specs.declared.living.LivingFields.{LivingFields}
use Rattle.cedr_living.specs.Lives.{Living, IsWith}
use Rattle.cedr_living.specs.Bags.{KeepsLives}
use Rattle.cedr_living.specs.BagLaws.{keeps_alike}
use Rattle.op_group.specs.Bags.{field_lives, life_in, columns_but, ComesTo, GoesFrom}

-- a life in a column, of a field if there is one
abbrev pub one_life : Row → ℕ → Option Field → List Living
one_life r column o = cons_option (option_map (λ f. record { column = column; begin = r.begin; end = r.end; field = f }) o) []

-- a field that a row has comes to a bag
pub comes_some : (old new : LivingFields) (r : Row) (column : ℕ) (f : Field) → slice_get r.payload column ≡ Some f → new.from ≡ old.from
    → ((lives : List Living) → KeepsLives old lives → KeepsLives new (record { column = column; begin = r.begin; end = r.end; field = f } ∷ lives)) → ComesTo old new (field_lives (column ∷ []) r)
comes_some old new r column f found from added = subst (λ o. ComesTo old new (one_life r column o)) (sym found) (record {
  from_stays = from;
  keeps = λ lives others keeps same. keeps_alike new (record { column = column; begin = r.begin; end = r.end; field = f } ∷ lives) others
      (λ w. omega (arith, same w, sum_by-cons w (record { column = column; begin = r.begin; end = r.end; field = f }) lives, sum_by-cons w (record { column = column; begin = r.begin; end = r.end; field = f }) []))
      (added lives keeps);
})

-- where nothing comes a bag keeps what it kept
pub nothing_comes : (bag : LivingFields) → ComesTo bag bag []
nothing_comes bag = record { from_stays = refl; keeps = λ lives others keeps same. keeps_alike bag lives others (λ w. omega (arith, same w)) keeps }

-- where a row has no field nothing comes
pub comes_none : (bag : LivingFields) (r : Row) (column : ℕ) → slice_get r.payload column ≡ None → ComesTo bag bag (field_lives (column ∷ []) r)
comes_none bag r column found = subst (λ o. ComesTo bag bag (one_life r column o)) (sym found) (nothing_comes bag)

-- one after the other
pub comes_both : (a b c : LivingFields) (xs ys : List Living) → ComesTo a b xs → ComesTo b c ys → ComesTo a c (xs ++ ys)
comes_both a b c xs ys one two = record {
  from_stays = two.from_stays ∙ one.from_stays;
  keeps = λ lives others keeps same. two.keeps (xs ++ lives) others (one.keeps lives (xs ++ lives) keeps (λ w. sum_by-append w xs lives)) (λ w. omega (arith, same w, sum_by-append w xs ys, sum_by-append w xs lives));
}

-- a field that a row has goes from a bag
pub goes_some : (old new : LivingFields) (r : Row) (column : ℕ) (f : Field) → slice_get r.payload column ≡ Some f → new.from ≡ old.from
    → ((lives rest : List Living) → KeepsLives old lives → IsWith lives (record { column = column; begin = r.begin; end = r.end; field = f }) rest → KeepsLives new rest) → GoesFrom old new (field_lives (column ∷ []) r)
goes_some old new r column f found from taken = subst (λ o. GoesFrom old new (one_life r column o)) (sym found) (record {
  from_stays = from;
  keeps = λ lives rest keeps same. taken lives rest keeps (λ w. omega (arith, same w, sum_by-cons w (record { column = column; begin = r.begin; end = r.end; field = f }) []));
})

-- where nothing goes a bag keeps what it kept
pub nothing_goes : (bag : LivingFields) → GoesFrom bag bag []
nothing_goes bag = record { from_stays = refl; keeps = λ lives rest keeps same. keeps_alike bag lives rest (λ w. omega (arith, same w)) keeps }

-- where a row has no field nothing goes
pub goes_none : (bag : LivingFields) (r : Row) (column : ℕ) → slice_get r.payload column ≡ None → GoesFrom bag bag (field_lives (column ∷ []) r)
goes_none bag r column found = subst (λ o. GoesFrom bag bag (one_life r column o)) (sym found) (nothing_goes bag)

-- one after the other
pub goes_both : (a b c : LivingFields) (xs ys : List Living) → GoesFrom a b xs → GoesFrom b c ys → GoesFrom a c (xs ++ ys)
goes_both a b c xs ys one two = record {
  from_stays = two.from_stays ∙ one.from_stays;
  keeps = λ lives rest keeps same. two.keeps (ys ++ rest) rest (one.keeps lives (ys ++ rest) keeps (λ w. omega (arith, same w, sum_by-append w xs ys, sum_by-append w ys rest))) (λ w. sum_by-append w ys rest);
}

-- the fields of a row in some columns and in more
pub lives_append : (xs ys : List ℕ) (r : Row) → field_lives (xs ++ ys) r ≡ field_lives xs r ++ field_lives ys r
lives_append xs ys r = filter_map-append (life_in r) xs ys

module _ (but columns : List ℕ) (i column : ℕ) (less : i < length columns) (is : column ≡ get_or columns i column) where
  next_columns : columns_but but (take (i + 1) columns) ≡ columns_but but (take i columns) ++ columns_but but (column ∷ [])
  next_columns =
      let one : take (suc i) columns ≡ take i columns ++ (column ∷ []) = take-suc columns i column less ∙ ap (λ x. take i columns ++ (x ∷ [])) (sym is) in
      let more : i + 1 ≡ suc i = omega arith in
      ap (λ n. columns_but but (take n columns)) more ∙ (ap (columns_but but) one ∙ filter-append (λ c. not (list_any (λ other. nat_eq other c) but)) (take i columns) (column ∷ []))

  -- a row's fields in one column more
  pub next_lives : (r : Row) → field_lives (columns_but but (take (i + 1) columns)) r ≡ field_lives (columns_but but (take i columns)) r ++ field_lives (columns_but but (column ∷ [])) r
  next_lives r = ap (λ cs. field_lives cs r) next_columns ∙ lives_append (columns_but but (take i columns)) (columns_but but (column ∷ [])) r
