-- Tables that agree on each port up to one time.
use Rattle.std.proofs.Common.{ℕ, zero, suc, ◌≤◌, List, [], ◌∷◌, arith}
use Rattle.cedr_base.specs.declared.row.Row.{Row}
use Rattle.cedr_base.specs.Rows.{AreRows}
use Rattle.change_laws.specs.Agreeing.{AgreeUpTo}
use Rattle.change_laws.proofs.AgreeLemmas.{agree_earlier, agree_itself}
use Rattle.cedr_table.specs.Operators.{Tables, table_at, least_of, HaveRows}
use Rattle.cedr_table.specs.Agreements.{AgreeOnPorts}

-- two bags of rows agree up to a time
pub record RowsAgree (t : ℕ) (xs ys : List Row) : Type 0 where
  pub agree : AgreeUpTo t xs ys
  pub rows : AreRows xs
  pub others : AreRows ys

-- on each port the bags agree up to the same time
abbrev pub AllAgree : ℕ → Tables → Tables → Type 0
AllAgree t [] [] = Unit {0}
AllAgree t [] (y ∷ ys) = ⊥
AllAgree t (x ∷ xs) [] = ⊥
AllAgree t (x ∷ xs) (y ∷ ys) = RowsAgree t x y × AllAgree t xs ys

-- tables that agree up to marks agree up to each time that isn't above the least mark
pub all_agree : (t : ℕ) (marks : List ℕ) (tables others : Tables) → t ≤ least_of marks → HaveRows tables → HaveRows others → AgreeOnPorts marks tables others → AllAgree t tables others
all_agree t [] [] [] below rows others_rows h = tt
all_agree t [] [] (y ∷ ys) below rows others_rows h = let size = h.others_are in absurd (omega arith)
all_agree t [] (x ∷ xs) ys below rows others_rows h = let size = h.tables_are in absurd (omega arith)
all_agree t (m ∷ marks) [] ys below rows others_rows h = let size = h.tables_are in absurd (omega arith)
all_agree t (m ∷ marks) (x ∷ xs) [] below rows others_rows h = let size = h.others_are in absurd (omega arith)
all_agree t (m ∷ marks) (x ∷ xs) (y ∷ ys) below rows others_rows h =
    let size = h.tables_are in
    let other_size = h.others_are in (
      record { agree = agree_earlier t m x y (omega arith) (h.each 0); rows = rows.each 0; others = others_rows.each 0 },
      all_agree t marks xs ys (omega arith) (record { each = λ port. rows.each (suc port) }) (record { each = λ port. others_rows.each (suc port) })
          (record { tables_are = omega arith; others_are = omega arith; each = λ port. h.each (suc port) }),
    )

-- up to the least mark
pub least_agree : (marks : List ℕ) (tables others : Tables) → HaveRows tables → HaveRows others → AgreeOnPorts marks tables others → AllAgree (least_of marks) tables others
least_agree marks tables others rows others_rows h = all_agree (least_of marks) marks tables others (omega arith) rows others_rows h

none_agree : (t : ℕ) → RowsAgree t [] []
none_agree t = record { agree = agree_itself t []; rows = record { each = λ r there. absurd (omega arith) }; others = record { each = λ r there. absurd (omega arith) } }

-- the bags of a port agree
pub rows_agree : (t port : ℕ) (tables others : Tables) → AllAgree t tables others → RowsAgree t (table_at tables port) (table_at others port)
rows_agree t port [] [] h = none_agree t
rows_agree t port [] (y ∷ ys) h = absurd h
rows_agree t port (x ∷ xs) [] h = absurd h
rows_agree t zero (x ∷ xs) (y ∷ ys) h = h.0
rows_agree t (suc port) (x ∷ xs) (y ∷ ys) h = rows_agree t port xs ys h.1
