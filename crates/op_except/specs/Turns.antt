-- Changes that turn some rows of the result into others.
use Rattle.std.specs.Prelude.{ℕ, ◌≡◌, ◌<◌, ◌≤◌, ◌+◌, List, ◌++◌, Bool, true, false}
use Rattle.std.specs.List.{flat_map}
use Rattle.cedr_base.specs.declared.row.Row.{Row}
use Rattle.cedr_base.specs.declared.change.Change.{Change}
use Rattle.cedr_base.specs.declared.change.Change.TheVariants.{Add, Cut}
use Rattle.cedr_base.specs.Rows.{count_of, AreRows, SameRows}
use Rattle.cedr_base.specs.Changes.{sync_of, IsChange, puts, takes, all_puts, all_takes}
use Rattle.change_laws.specs.Repairs.{AllFrom}
use Rattle.change_laws.proofs.RepairLemmas.{AllChanges}
use Rattle.cedr_expr.specs.declared.test.Test.{Test}
use Rattle.cedr_expr.specs.Tests.{passes}
use Rattle.op_except.specs.Parts.{matching, excepted}
use Rattle.op_except.specs.Steps.{turns_on}

-- Changes turn rows into others, none is seen before a time, and a test says which rows they may take and which they may put.
pub record TurnsBy (t : ℕ) (goes : Row → Bool) (olds news : List Row) (cs : List Change) : Type 0 where
  pub changes : AllChanges cs
  pub from : AllFrom t cs
  pub sums : (r : Row) → count_of r news + count_of r (all_takes cs) ≡ count_of r olds + count_of r (all_puts cs)
  pub there : (r : Row) → count_of r (all_takes cs) ≤ count_of r olds
  pub stays : (r : Row) → goes r ≡ false → count_of r (all_takes cs) ≡ 0
  pub leaves : (r : Row) → goes r ≡ true → count_of r (all_puts cs) ≡ 0

-- where a matching row goes whole, what ends where it begins doesn't begin before a time
abbrev pub IsLate : List Test → ℕ → Change → List Row → List Row → Type 0
IsLate tests t (Add b) others rows = Unit {0}
IsLate tests t (Cut b e) others rows = (a x : Row) → 0 < count_of a rows → passes tests a.payload b.payload ≡ true → 0 < count_of x (excepted tests others a) → e ≡ b.begin → x.begin < b.begin → b.begin < x.end → t ≤ x.begin

-- A change of port 1 may be answered for rows of port 0 from a time on. Those of the other rows of port 1 that pass with them
-- are those that are filed.
pub record CanTurn (tests : List Test) (t : ℕ) (c : Change) (filed others rows : List Row) : Type 0 where
  pub is : IsChange c
  pub from : t ≤ sync_of c
  pub rows_are : AreRows rows
  pub filed_are : AreRows filed
  pub same : (a : Row) → 0 < count_of a rows → SameRows (matching tests a filed) (matching tests a others)
  pub late : IsLate tests t c others rows

-- a list has gained changes that turn the parts of rows of port 0 as a change of port 1 does
pub record HasTurned (tests : List Test) (t : ℕ) (c : Change) (others rows : List Row) (before later : List Change) : Type 0 where
  pub changes : List Change
  pub appended : later ≡ before ++ changes
  pub turns : TurnsBy t (turns_on c) (flat_map (excepted tests (takes c ++ others)) rows) (flat_map (excepted tests (puts c ++ others)) rows) changes
