-- What sequences of so many of the tables give in each order is what the choices give.
use Rattle.std.proofs.Common.{◌≡◌, ℕ, ◌+◌, inl, inr, List, [], ◌∷◌, false, cond, refl, ap, sym, ◌∙◌, arith}
use Rattle.std.specs.Prelude.{nat_lt}
use Rattle.std.proofs.lemmas.Bool.{and_cases, and_left, and_right}
use Rattle.cedr_base.specs.declared.row.Row.{Row}
use Rattle.cedr_base.specs.declared.change.Change.{Change}
use Rattle.cedr_base.specs.Rows.{count_of, one_if_same, SameRows}
use Rattle.cedr_base.specs.Changes.{puts, takes}
use Rattle.change_laws.specs.Times.{later}
use Rattle.change_laws.specs.Repairs.{IsMoved}
use Rattle.change_laws.proofs.BagSums.{sum_by-flat_map}
use Rattle.cedr_table.specs.Operators.{Tables, table_at, with_table}
use Rattle.cedr_table.specs.Choices.{chosen}
use Rattle.cedr_table.proofs.ChoiceLemmas.{sum_chosen, sum_by-like, count_chosen}
use Rattle.cedr_expr.specs.declared.test.Test.{Test}
use Rattle.cedr_expr.specs.Tests.{passes}
use Rattle.pat_state.specs.Ascending.{ascends, payloads_joined, choice_row, sequence}
use Rattle.pat_atleast.specs.Arrangements.{arranged}
use Rattle.pat_atleast.specs.AtLeasts.{together, at_least}
use Rattle.pat_atleast.specs.Finding.{in_each_order}
use Rattle.pat_atleast.specs.SomeLaws.{sum_some-moved, count_some}
use Rattle.pat_atleast.proofs.ArrangeLemmas.{climbs_from, climbs, all_orders}

-- rows that don't begin one after the other don't do so before a limit
no_ascent : (after limit : ℕ) (rs : List Row) → climbs_from after rs ≡ false → ascends after limit rs ≡ false
no_ascent after limit [] h = absurd (let e = h in cc)
no_ascent after limit (e ∷ es) h = elim (and_cases (nat_lt after e.begin) (climbs_from e.begin es) h) [
  | inl early ↦ and_left (nat_lt after e.begin) (ascends e.begin limit es) early
  | inr rest ↦ and_right (nat_lt after e.begin) (ascends e.begin limit es) (no_ascent e.begin limit es rest)
]

module _ (scope : ℕ) (tests : List Test) (r : Row) where
  abbrev weight : List Row → ℕ
  weight rs = count_of r (sequence scope tests rs)

  no_sequence : (rs : List Row) → climbs rs ≡ false → weight rs ≡ 0
  no_sequence [] h = refl
  no_sequence (e ∷ es) h = ap (λ b. count_of r (cond b (choice_row scope e es ∷ []) []))
      (and_left (ascends e.begin (later e.begin scope) es) (passes tests (payloads_joined (e ∷ es)) []) (no_ascent e.begin (later e.begin scope) es h))

  -- each row is given as often
  pub count_at_least : (number : ℕ) (tables : Tables) → count_of r (at_least number scope tests tables) ≡ count_of r (in_each_order number scope tests tables)
  count_at_least number tables =
      count_some r (together scope tests) number tables
      ∙ (sym (all_orders weight number tables (record { none = no_sequence }))
      ∙ (sym (sum_by-like (λ order. count_of r (chosen (sequence scope tests) order)) (λ order. sum_chosen weight order) (arranged number tables) (λ order. count_chosen r (sequence scope tests) order))
      ∙ sym (sum_by-flat_map (one_if_same r) (chosen (sequence scope tests)) (arranged number tables))))

  -- a changed row of one port is one summand
  pub at_least_moved : (number : ℕ) (tables : Tables) (port : ℕ) (c : Change) (after : List Row) → IsMoved c (table_at tables port) after
      → count_of r (at_least number scope tests (with_table tables port after)) + count_of r (at_least number scope tests (with_table tables port (takes c))) ≡ count_of r (at_least number scope tests tables) + count_of r (at_least number scope tests (with_table tables port (puts c)))
  at_least_moved number tables port c after moved = omega (
    arith,
    count_some r (together scope tests) number tables,
    count_some r (together scope tests) number (with_table tables port after),
    count_some r (together scope tests) number (with_table tables port (takes c)),
    count_some r (together scope tests) number (with_table tables port (puts c)),
    sum_some-moved (λ rs. count_of r (together scope tests rs)) number tables port c after moved,
  )

-- they are the same bag
pub same_orders : (number scope : ℕ) (tests : List Test) (tables : Tables) → SameRows (at_least number scope tests tables) (in_each_order number scope tests tables)
same_orders number scope tests tables = record { each = λ r. count_at_least scope tests r number tables }
