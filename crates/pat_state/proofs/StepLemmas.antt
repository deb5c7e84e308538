-- What a change does to a bag of rows in order of begin.
use Rattle.std.proofs.Common.{◌≡◌, ℕ, ◌<◌, ◌≤◌, inl, inr, List, [], ◌∷◌, ◌++◌, refl, ap, sym, ◌∙◌, subst, arith}
use Rattle.std.proofs.lemmas.Bool.{cases_lt}
use Rattle.cedr_base.specs.declared.row.Row.{Row}
use Rattle.cedr_base.specs.declared.change.Change.{Change}
use Rattle.cedr_base.specs.declared.change.Change.TheVariants.{Add, Cut}
use Rattle.cedr_base.specs.Rows.{one_if_same, count_of, SameRows}
use Rattle.cedr_base.specs.Changes.{puts, takes}
use Rattle.cedr_base.proofs.Bags.{count_of-append, count_of-cons, one_if_same_exact}
use Rattle.change_laws.proofs.Moves.{remnant_none, remnant_some}
use Rattle.pat_state.specs.Starts.{endless, all_endless, AreEndless, HasRow}

-- one row more
pub added_stays : (row start : Row) (old new : List Row) → AreEndless old → start ≡ endless row → SameRows new (start ∷ old) → AreEndless new
added_stays row start old new h is same = λ r there. elim (cases_lt 0 (one_if_same r start)) [
  | inl it ↦ ap (λ (x : Row). x.end) (one_if_same_exact r start it ∙ is)
  | inr other ↦ h r (omega (arith, same.each r, count_of-cons r start old))
]

-- one row less
pub taken_stays : (start : Row) (old new : List Row) → AreEndless old → SameRows (start ∷ new) old → AreEndless new
taken_stays start old new h same = λ r there. h r (omega (arith, same.each r, count_of-cons r start new))

-- a bag that has one row more, without its end, went through the addition of that row
pub added_rows : (change : Change) (row start : Row) (old new : List Row) → change ≡ Add row → start ≡ endless row → SameRows new (start ∷ old) → SameRows (new ++ all_endless (takes change)) (old ++ all_endless (puts change))
added_rows change row start old new e is same =
    subst (λ (d : Change). SameRows (new ++ all_endless (takes d)) (old ++ all_endless (puts d))) (sym e)
    (record {
      each = λ r.
          let one = ap (one_if_same r) is in
          omega (arith, same.each r, count_of-cons r start old, count_of-cons r (endless row) [], count_of-append r new [], count_of-append r old (endless row ∷ []), one);
    })

-- a bag that has one row less, without its end, went through the withdrawal of that row
pub taken_rows : (change : Change) (row start : Row) (end : ℕ) (old new : List Row) → change ≡ Cut row end → end ≤ row.begin → start ≡ endless row → SameRows (start ∷ new) old → SameRows (new ++ all_endless (takes change)) (old ++ all_endless (puts change))
taken_rows change row start end old new e gone is same =
    subst (λ (d : Change). SameRows (new ++ all_endless (takes d)) (old ++ all_endless (puts d))) (sym e)
    (subst (λ (rows : List Row). SameRows (new ++ endless row ∷ []) (old ++ all_endless rows)) (sym (remnant_none row end gone))
    (record {
      each = λ r.
          let one = ap (one_if_same r) is in
          omega (arith, same.each r, count_of-cons r start new, count_of-cons r (endless row) [], count_of-append r new (endless row ∷ []), count_of-append r old [], one);
    }))

-- what is left of a row has its begin and its payload
pub kept_rows : (change : Change) (row : Row) (end : ℕ) (rows : List Row) → change ≡ Cut row end → row.begin < end → SameRows (rows ++ all_endless (takes change)) (rows ++ all_endless (puts change))
kept_rows change row end rows e lives =
    subst (λ (d : Change). SameRows (rows ++ all_endless (takes d)) (rows ++ all_endless (puts d))) (sym e)
    (subst (λ (left : List Row). SameRows (rows ++ endless row ∷ []) (rows ++ all_endless left)) (sym (remnant_some row end lives))
    (record { each = λ r. refl }))

-- the row that a change cuts is there
pub has_copy : (change : Change) (row start : Row) (end : ℕ) (rows : List Row) → change ≡ Cut row end → start ≡ endless row → HasRow rows change → 0 < count_of start rows
has_copy change row start end rows e is has = subst (λ (x : Row). 0 < count_of x rows) (sym is) (subst (HasRow rows) e has)
