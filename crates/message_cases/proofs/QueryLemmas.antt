-- The tables of a query's sources, which get rows.
use Rattle.std.proofs.Common.{ℕ, zero, suc, List, [], ◌∷◌, set, replicate, arith}
use Rattle.cedr_base.specs.declared.row.Row.{Row}
use Rattle.cedr_base.specs.declared.change.Change.TheVariants.{Add}
use Rattle.cedr_base.specs.Rows.{SameRows, IsRow, AreRows}
use Rattle.cedr_base.proofs.Bags.{count_of-append, count_of-cons}
use Rattle.cedr_table.proofs.Changing.{rows_led}
use Rattle.cedr_table.specs.Operators.{Tables, table_at, HaveRows}

-- a row more leaves a table of rows
pub has_row_more : (old new : List Row) (row : Row) → SameRows new (row ∷ old) → IsRow row → AreRows old → AreRows new
has_row_more old new row same is has = rows_led old new (Add row ∷ []) has (is, tt) (record {
  sums = record { each = λ r. omega (arith, same.each r, count_of-append r new [], count_of-append r old (row ∷ []), count_of-cons r row old, count_of-cons r row []) };
})

none_there : (n k : ℕ) → AreRows (table_at (replicate n []) k)
none_there zero k = record { each = λ r there. absurd (omega arith) }
none_there (suc n) zero = record { each = λ r there. absurd (omega arith) }
none_there (suc n) (suc k) = none_there n k

-- tables to which no row came have rows only
pub none_have_rows : (n : ℕ) → HaveRows (replicate n [])
none_have_rows n = record { each = none_there n }

rows_set : (ts : Tables) (t : List Row) (place : ℕ) → ((k : ℕ) → AreRows (table_at ts k)) → AreRows t → (k : ℕ) → AreRows (table_at (set ts place t) k)
rows_set [] t place are has k = are k
rows_set (x ∷ ts) t zero are has zero = has
rows_set (x ∷ ts) t zero are has (suc k) = are (suc k)
rows_set (x ∷ ts) t (suc place) are has zero = are 0
rows_set (x ∷ ts) t (suc place) are has (suc k) = rows_set ts t place (λ j. are (suc j)) has k

-- where one of the tables gets another one of rows only, all have rows only
pub have_rows_set : (ts : Tables) (t : List Row) (place : ℕ) → HaveRows ts → AreRows t → HaveRows (set ts place t)
have_rows_set ts t place are has = record { each = rows_set ts t place are.each has }
