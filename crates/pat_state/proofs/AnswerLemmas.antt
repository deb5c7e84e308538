-- Changes by which whole rows join or leave a result.
use Rattle.std.proofs.Common.{◌≡◌, ℕ, ◌+◌, ◌<◌, ◌≤◌, inl, inr, List, [], ◌∷◌, ◌++◌, Bool, true, false, cond, refl, ap, sym, subst, arith}
use Rattle.std.specs.Prelude.{map}
use Rattle.std.specs.List.{flat_map}
use Rattle.cedr_base.specs.declared.row.Row.{Row}
use Rattle.cedr_base.specs.Rows.{IsRow, count_of, same_row, SameRows}
use Rattle.cedr_base.proofs.Bags.{count_of-cons, one_of_itself, same_row_exact}
use Rattle.cedr_base.specs.Changes.{all_puts, all_takes}
use Rattle.change_laws.specs.Repairs.{AllFrom, Repair}
use Rattle.change_laws.proofs.Moves.{remnant_none}
use Rattle.change_laws.proofs.RepairLemmas.{AllChanges, Turns, takes_adds, puts_adds, repair_by_turns}
use Rattle.change_laws.proofs.BagSums.{same_itself}
use Rattle.pat_state.specs.declared.answer.Way.{Way}
use Rattle.pat_state.specs.declared.answer.Way.TheVariants.{Comes, Goes}
use Rattle.pat_state.specs.Answers.{answered}

-- each is a row that doesn't begin before a time
abbrev pub AllLate : ℕ → List Row → Type 0
AllLate t [] = Unit {0}
AllLate t (r ∷ rows) = (IsRow r × (t ≤ r.begin)) × AllLate t rows

-- two lists of rows that don't begin before a time have together only such rows
pub ahead-append : (t : ℕ) (xs ys : List Row) → AllLate t xs → AllLate t ys → AllLate t (xs ++ ys)
ahead-append t [] ys h k = k
ahead-append t (x ∷ xs) ys h k = (h.0, ahead-append t xs ys h.1 k)

-- where each element makes only rows that don't begin before a time, so does a list of elements
pub ahead-flat_map : {X : Type 0} (t : ℕ) (f : X → List Row) (xs : List X) → ((x : X) → AllLate t (f x)) → AllLate t (flat_map f xs)
ahead-flat_map t f [] h = tt
ahead-flat_map t f (x ∷ xs) h = ahead-append t (f x) (flat_map f xs) (h x) (ahead-flat_map t f xs h)

ahead_at : (t : ℕ) (x : Row) (rows : List Row) (r : Row) (b : Bool) → same_row r x ≡ b → IsRow x × (t ≤ x.begin) → 0 < count_of r (x ∷ rows) → (0 < count_of r rows → IsRow r × (t ≤ r.begin)) → IsRow r × (t ≤ r.begin)
ahead_at t x rows r true is late there rest = subst (λ (q : Row). IsRow q × (t ≤ q.begin)) (sym (same_row_exact r x is)) late
ahead_at t x rows r false is late there rest = rest (let none = ap {B = ℕ} (λ c. cond c 1 0) is in omega (arith, there, none, count_of-cons r x rows))

-- each row of such a list doesn't begin before the time
ahead_there : (t : ℕ) (rows : List Row) → AllLate t rows → (r : Row) → 0 < count_of r rows → IsRow r × (t ≤ r.begin)
ahead_there t [] late r there = absurd (omega arith)
ahead_there t (x ∷ rows) late r there = ahead_at t x rows r (same_row r x) refl late.0 there (λ k. ahead_there t rows late.1 r k)

ahead_each : (t : ℕ) (rows : List Row) → ((r : Row) → 0 < count_of r rows → IsRow r × (t ≤ r.begin)) → AllLate t rows
ahead_each t [] each = tt
ahead_each t (x ∷ rows) each = (each x (omega (arith, count_of-cons x x rows, one_of_itself x)), ahead_each t rows (λ r there. each r (omega (arith, there, count_of-cons r x rows))))

-- a bag that is the same as one of rows that don't begin before a time has only such rows
pub ahead_same : (t : ℕ) (xs ys : List Row) → SameRows xs ys → AllLate t ys → AllLate t xs
ahead_same t xs ys same late = ahead_each t xs (λ r there. ahead_there t ys late r (omega (arith, there, same.each r)))

-- what begins from a time on does so from an earlier one on
pub ahead_earlier : (s t : ℕ) (rows : List Row) → s ≤ t → AllLate t rows → AllLate s rows
ahead_earlier s t [] less h = tt
ahead_earlier s t (r ∷ rows) less h = ((h.0.0, let from = h.0.1 in omega arith), ahead_earlier s t rows less h.1)

-- each change by which rows that don't begin before a time join or leave a result is one
pub ahead_changes : (way : Way) (t : ℕ) (rows : List Row) → AllLate t rows → AllChanges (map (answered way) rows)
ahead_changes way t [] h = tt
ahead_changes Comes t (r ∷ rows) h = (h.0.0, ahead_changes Comes t rows h.1)
ahead_changes Goes t (r ∷ rows) h = ((h.0.0, omega arith, h.0.0.lives), ahead_changes Goes t rows h.1)

-- no change by which rows that don't begin before a time join or leave a result is seen before it
pub ahead_from : (way : Way) (t : ℕ) (rows : List Row) → AllLate t rows → AllFrom t (map (answered way) rows)
ahead_from way t [] h = tt
ahead_from Comes t (r ∷ rows) h = (h.0.1, ahead_from Comes t rows h.1)
ahead_from Goes t (r ∷ rows) h = (h.0.1, ahead_from Goes t rows h.1)

takes_gone : (rows : List Row) → all_takes (map (answered Goes) rows) ≡ rows
takes_gone [] = refl
takes_gone (r ∷ rows) = ap (λ xs. r ∷ xs) (takes_gone rows)

puts_gone : (rows : List Row) → all_puts (map (answered Goes) rows) ≡ []
puts_gone [] = refl
puts_gone (r ∷ rows) = (λ i. remnant_none r r.begin (omega arith) i ++ puts_gone rows i)

-- additions turn nothing into their rows
pub come_turns : (t : ℕ) (rows news : List Row) → AllLate t rows → SameRows rows news → Turns t [] news (map (answered Comes) rows)
come_turns t rows news late same = record {
  changes = ahead_changes Comes t rows late;
  from = ahead_from Comes t rows late;
  sums = λ r. omega (arith, same.each r, ap (count_of r) (takes_adds rows), ap (count_of r) (puts_adds rows));
  there = λ r. omega (arith, ap (count_of r) (takes_adds rows));
  apart = λ r. inl (ap (count_of r) (takes_adds rows));
}

-- cuts to the begin turn their rows into nothing
pub go_turns : (t : ℕ) (rows olds : List Row) → AllLate t rows → SameRows rows olds → Turns t olds [] (map (answered Goes) rows)
go_turns t rows olds late same = record {
  changes = ahead_changes Goes t rows late;
  from = ahead_from Goes t rows late;
  sums = λ r. omega (arith, same.each r, ap (count_of r) (takes_gone rows), ap (count_of r) (puts_gone rows));
  there = λ r. omega (arith, same.each r, ap (count_of r) (takes_gone rows));
  apart = λ r. inr (ap (count_of r) (puts_gone rows));
}

-- where the rows stay the same, nothing has to change
pub same_turns : (t : ℕ) (olds news : List Row) → SameRows olds news → Turns t olds news []
same_turns t olds news same = record {
  changes = tt;
  from = tt;
  sums = λ r. omega (arith, same.each r);
  there = λ r. omega arith;
  apart = λ r. inl refl;
}

-- additions of what a result gained repair it
pub comes_repairs : (t : ℕ) (old new found : List Row) → AllLate t found → ((r : Row) → count_of r new ≡ count_of r old + count_of r found) → Repair old new t (map (answered Comes) found)
comes_repairs t old new found late sums = repair_by_turns old new [] found t (map (answered Comes) found) (come_turns t found found late (same_itself found)) (λ r. omega (arith, sums r)) (λ r. omega arith)

-- cuts to the begin of what it lost do, too
pub goes_repairs : (t : ℕ) (old new found : List Row) → AllLate t found → ((r : Row) → count_of r new + count_of r found ≡ count_of r old) → Repair old new t (map (answered Goes) found)
goes_repairs t old new found late sums = repair_by_turns old new found [] t (map (answered Goes) found) (go_turns t found found late (same_itself found)) (λ r. omega (arith, sums r)) (λ r. omega (arith, sums r))

-- a result that stays needs no change
pub stays_repaired : (t : ℕ) (old new : List Row) → ((r : Row) → count_of r new ≡ count_of r old) → Repair old new t []
stays_repaired t old new sums = repair_by_turns old new [] [] t [] (same_turns t [] [] (same_itself [])) (λ r. omega (arith, sums r)) (λ r. omega arith)
