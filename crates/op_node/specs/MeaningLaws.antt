-- What holds of what a plan's node means, whatever operator works it out and whatever that keeps.
use Rattle.std.specs.Prelude.{ℕ, ◌≡◌, ◌<◌, ◌≤◌, List, [], ◌∷◌, length, replicate, true}
use Rattle.cedr_base.specs.declared.time.TheConstants.{FOREVER}
use Rattle.cedr_base.specs.Rows.{AreRows, SameRows}
use Rattle.cedr_table.specs.Agreements.{KeepsAgreement}
use Rattle.cedr_table.specs.Operators.{Tables, Meaning, HaveRows, SameTables, AllRise, AreTimes}

-- Laws of a meaning with so many ports.
-- ports: these are its ports, and there is one at least.
-- same_result: the result depends on bags alone.
-- same_bound: so does the bound.
-- bound_is_time: the bound isn't above FOREVER.
-- bound_rises: the bound doesn't fall while the marks rise.
-- nothing: nothing comes of empty tables.
-- first_bound: and nothing is promised at marks of 0.
-- echo: what echoes has one port, and its bound is that port's mark.
-- agrees: the results of tables that agree up to the marks of their ports agree up to the bound.
-- rows: of tables that have rows only, so has the result.
pub record MeaningLaws (meaning : Meaning) (count : ℕ) : Type 0 where
  pub ports : (meaning.ports ≡ count) × (0 < count)
  pub same_result : (tables others : Tables) → SameTables tables others → SameRows (meaning.result tables) (meaning.result others)
  pub same_bound : (tables others : Tables) (marks : List ℕ) → SameTables tables others → meaning.bound tables marks ≡ meaning.bound others marks
  pub bound_is_time : (tables : Tables) (marks : List ℕ) → length tables ≡ count → length marks ≡ count → AreTimes marks → meaning.bound tables marks ≤ FOREVER
  pub bound_rises : (tables : Tables) (marks later : List ℕ) → AllRise marks later → meaning.bound tables marks ≤ meaning.bound tables later
  pub nothing : SameRows (meaning.result (replicate count [])) []
  pub first_bound : meaning.bound (replicate count []) (replicate count 0) ≡ 0
  pub echo : meaning.echoes ≡ true → (count ≡ 1) × ((tables : Tables) (mark : ℕ) → meaning.bound tables (mark ∷ []) ≡ mark)
  pub agrees : KeepsAgreement meaning
  pub rows : (tables : Tables) → HaveRows tables → AreRows (meaning.result tables)
