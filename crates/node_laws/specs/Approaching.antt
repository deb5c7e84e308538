-- Lists that are on the way to a table, and the first additions of its rows.
use Rattle.std.specs.Prelude.{◌≡◌, List, [], ◌∷◌, ◌++◌, map, None, true, false}
use Rattle.cedr_base.specs.declared.level.Level.{Level}
use Rattle.cedr_base.specs.declared.row.Row.{Row}
use Rattle.cedr_base.specs.declared.change.Change.{Change}
use Rattle.cedr_base.specs.declared.change.Change.TheVariants.{Add}
use Rattle.cedr_base.specs.declared.change.Message.{Message}
use Rattle.cedr_base.specs.Rows.{AreRows, in_order}
use Rattle.cedr_base.specs.Messages.{IsLegal, IsTableOf, mark_of}
use Rattle.change_laws.specs.Agreeing.{AgreeUpTo}
use Rattle.cedr_table.specs.Operators.{Tables}
use Rattle.node_laws.specs.Lists.{Lists}
use Rattle.node_laws.specs.Pass.{has_end}
use Rattle.node_laws.specs.Lawful.{has_broken}

-- A list is on the way to a table of rows: it is legal and not broken, its own table agrees with that one up to its mark,
-- and is that one once the list has its End.
pub record Approaches (ms : List Message) (rows : List Row) : Type 0 where
  pub legal : IsLegal ms
  pub unbroken : has_broken ms ≡ false
  pub are_rows : AreRows rows
  pub agrees : (made : List Row) → IsTableOf ms made → AgreeUpTo (mark_of ms) made rows
  pub whole : has_end ms ≡ true → IsTableOf ms rows

-- each list is on the way to its table
abbrev pub AllApproach : Lists → Tables → Type 0
AllApproach [] [] = Unit {0}
AllApproach [] (t ∷ ts) = ⊥
AllApproach (l ∷ ls) [] = ⊥
AllApproach (l ∷ ls) (t ∷ ts) = Approaches l t × AllApproach ls ts

-- no level has a limit on its memory
abbrev pub RememberAll : List Level → Type 0
RememberAll [] = Unit {0}
RememberAll (v ∷ vs) = (v.memory ≡ None) × RememberAll vs

-- the changes add the first of some rows in canonical order, and take nothing back
pub record AddsFirst (cs : List Change) (rows : List Row) : Type 0 where
  pub first : List Row
  pub rest : List Row
  pub changes_are : cs ≡ map (λ (r : Row). Add r) first
  pub all : first ++ rest ≡ in_order rows
