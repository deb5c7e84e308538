-- What is kept of the ports.
use Rattle.std.specs.Prelude.{ℕ, ◌≡◌, List, length}
use Rattle.cedr_expr.specs.declared.test.Test.{Test}
use Rattle.cedr_table.specs.Operators.{Tables}
use Rattle.pat_state.specs.Answers.{StandsByBegin}
use Rattle.pat_state.specs.Steps.{AreAmongPorts}
use Rattle.pat_state.specs.Groups.{grouped_rows, AreGrouped}
use Rattle.pat_atleast.specs.declared.kept.Kept.{Kept}
use Rattle.pat_atleast.specs.declared.kept.Kept.TheVariants.{Two, More}
use Rattle.pat_atleast.specs.Arrangements.{arranged, ports_from}
use Rattle.pat_atleast.specs.AtLeasts.{IsAtLeast}
use Rattle.pat_atleast.specs.Crossings.{crossed_rows, AreAllCrossed}

-- the rows of the ports
abbrev pub bags_in : Kept → Tables
bags_in (Two pairs) = crossed_rows pairs
bags_in (More grouped) = grouped_rows grouped

-- the rows have their tags
abbrev pub HaveTags : List Test → Kept → Type 0
HaveTags tests (Two pairs) = AreAllCrossed tests pairs
HaveTags tests (More grouped) = AreGrouped tests grouped

-- rows are kept with two tags each only where that many ports are two
abbrev pub SuitsNumber : ℕ → Kept → Type 0
SuitsNumber number (Two pairs) = number ≡ 2
SuitsNumber number (More grouped) = Unit {0}

-- the order is one of the ports, of so many as the rows are kept for
abbrev pub IsOrderFor : Kept → List ℕ → Type 0
IsOrderFor kept order = AreAmongPorts (length (bags_in kept)) order × SuitsNumber (length order) kept

-- the rows that are kept stand for the tables, and have their tags, and the orders are all those of so many of the ports
pub record AtLeastStands (number scope : ℕ) (tests : List Test) (orders : List (List ℕ)) (kept : Kept) (tables : Tables) (marks : List ℕ) : Type 0 where
  pub kept_stand : StandsByBegin (IsAtLeast (length (bags_in kept)) number scope) scope (bags_in kept) tables marks
  pub orders_are : orders ≡ arranged number (ports_from 0 (length (bags_in kept)))
  pub tags : HaveTags tests kept
  pub suits : SuitsNumber number kept
