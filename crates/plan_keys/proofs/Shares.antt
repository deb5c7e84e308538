-- The parts of a table, where each key is in one of them, are together the table.
use Rattle.std.proofs.Common.{◌≡◌, ℕ, ◌+◌, ◌<◌, arith, length, List, [], ◌∷◌, Bool, true, false, cond, refl, ap, sym, ◌∙◌}
use Rattle.std.specs.Prelude.{Option, map, sum_by}
use Rattle.std.specs.List.{flat_map}
use Rattle.std.proofs.lemmas.List.Sums.{sum_by-cons}
use Rattle.cedr_base.specs.declared.field.Field.{Field}
use Rattle.cedr_base.specs.declared.row.Row.{Row}
use Rattle.cedr_base.specs.Rows.{count_of, SameRows}
use Rattle.cedr_base.proofs.Bags.{count_of-append}
use Rattle.cedr_plan.specs.declared.plan.PlanNode.{PlanNode}
use Rattle.cedr_plan.specs.Drawn.{node_of}
use Rattle.cedr_plan.specs.Rules.{AreNodes}
use Rattle.cedr_table.specs.Operators.{Tables, table_at}
use Rattle.cedr_table.proofs.FilterLemmas.{count-filter}
use Rattle.cedr_query.specs.Queries.{query}
use Rattle.pat_state.proofs.FlatLemmas.{flat_map-like}
use Rattle.plan_keys.specs.Keys.{AreKeyed, AreSourceTables, AreShares, column_at, row_key, key_part, source_parts, shared_query}
use Rattle.plan_keys.proofs.Query.{parted_query}

module _ (column : ℕ) (rows : List Row) (r : Row) where
  abbrev has_key : (Option Field → Bool) → Bool
  has_key mine = mine (row_key column r)

  abbrev one_if_mine : (Option Field → Bool) → ℕ
  one_if_mine mine = cond (has_key mine) 1 0

  none_at : (b : Bool) (n : ℕ) → cond {A = ℕ} b 1 0 + n ≡ 0 → (n ≡ 0) × (b ≡ false)
  none_at true n h = absurd (omega arith)
  none_at false n h = (omega arith, refl)

  -- where no part has the key, none has the row
  in_none : (shares : List (Option Field → Bool)) → sum_by one_if_mine shares ≡ 0 → count_of r (flat_map (λ mine. key_part mine column rows) shares) ≡ 0
  in_none [] h = refl
  in_none (mine ∷ shares) h =
      let none = none_at (has_key mine) (sum_by one_if_mine shares) (sym (sum_by-cons one_if_mine mine shares) ∙ h) in
      omega (
        arith,
        count_of-append r (key_part mine column rows) (flat_map (λ mine. key_part mine column rows) shares),
        count-filter r (λ (x : Row). mine (row_key column x)) rows ∙ ap (λ b. cond b (count_of r rows) 0) none.1,
        in_none shares none.0,
      )

  in_one_at : (b : Bool) (n k rest : ℕ) → cond {A = ℕ} b 1 0 + n ≡ 1 → k ≡ cond b (count_of r rows) 0 → (n ≡ 0 → rest ≡ 0) → (n ≡ 1 → rest ≡ count_of r rows) → k + rest ≡ count_of r rows
  in_one_at true n k rest h e none one = omega (arith, e, none (omega arith))
  in_one_at false n k rest h e none one = omega (arith, e, one (omega arith))

  -- where one part has the key, it has all copies of the row
  in_one : (shares : List (Option Field → Bool)) → sum_by one_if_mine shares ≡ 1 → count_of r (flat_map (λ mine. key_part mine column rows) shares) ≡ count_of r rows
  in_one [] h = absurd (omega arith)
  in_one (mine ∷ shares) h =
      count_of-append r (key_part mine column rows) (flat_map (λ mine. key_part mine column rows) shares)
      ∙ in_one_at (has_key mine) (sum_by one_if_mine shares) (count_of r (key_part mine column rows)) (count_of r (flat_map (λ mine. key_part mine column rows) shares)) (sym (sum_by-cons one_if_mine mine shares) ∙ h)
      (count-filter r (λ (x : Row). mine (row_key column x)) rows) (in_none shares) (in_one shares)

-- the parts are together the table
pub shares_together : (column : ℕ) (rows : List Row) (shares : List (Option Field → Bool)) → AreShares shares → SameRows (flat_map (λ mine. key_part mine column rows) shares) rows
shares_together column rows shares are = record { each = λ r. in_one column rows r shares (are (row_key column r)) }

-- so the query is the sum of the queries over the parts
pub shared_is : (columns : List ℕ) (nodes : List PlanNode) (sources : Tables) (shares : List (Option Field → Bool)) → AreNodes [] (map node_of nodes) → AreKeyed columns [] nodes → AreSourceTables nodes sources → AreShares shares → (place : ℕ) → place < length nodes
    → SameRows (shared_query shares columns sources nodes place) (table_at (query sources nodes) place)
shared_is columns nodes sources shares are keyed fit divided place within =
    let together = shares_together (column_at columns place) (table_at (query sources nodes) place) shares divided in
    record {
      each = λ r. ap (count_of r)
          (flat_map-like (λ mine. table_at (query (source_parts mine columns nodes sources) nodes) place) (λ mine. key_part mine (column_at columns place) (table_at (query sources nodes) place)) shares (λ mine. parted_query nodes sources fit mine columns are keyed place within))
          ∙ together.each r;
    }
