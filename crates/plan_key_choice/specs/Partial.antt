-- Choices of columns for some of the nodes, and what other nodes may have beside them.
use Rattle.std.specs.Prelude.{ℕ, ◌≡◌, ◌≢◌, ◌<◌, ◌==◌, Bool, true, List, [], length, Option, Some, None, IfSome, Vec, map, unwrap_or}
use Rattle.std.specs.Global.{Global}
use Rattle.std.specs.List.{slice_get, list_any}
use Rattle.cedr_plan.specs.declared.plan.PlanNode.{PlanNode}
use Rattle.plan_keys.specs.Keys.{AreKeyed, column_at}
use Rattle.plan_key_choice.specs.Choices.{AreInWidths}
use Rattle.plan_key_choice.specs.declared.fault.KeyFault.{KeyFault}
use Rattle.plan_key_choice.specs.declared.fault.KeyFault.TheVariants as key_fault

-- ---- columns of some nodes

-- the column that is chosen, where there is a node
abbrev pub chosen_of : Option (Option ℕ) → Option ℕ
chosen_of None = None
chosen_of (Some column) = column

-- the column that is chosen for the node at a place
abbrev pub chosen_at : List (Option ℕ) → ℕ → Option ℕ
chosen_at choice place = chosen_of (slice_get choice place)

-- the columns, where 0 stands for those that aren't chosen
abbrev pub chosen_columns : List (Option ℕ) → List ℕ
chosen_columns choice = map (λ (column : Option ℕ). unwrap_or column 0) choice

-- the columns are the chosen ones, where some are
abbrev pub HasChosen : List (Option ℕ) → List ℕ → Type 0
HasChosen choice columns = (place : ℕ) → IfSome (chosen_at choice place) (λ column. column_at columns place ≡ column)

-- the column of each node is chosen
abbrev pub AreAllChosen : List (Option ℕ) → Type 0
AreAllChosen choice = (place : ℕ) → place < length choice → chosen_at choice place ≢ None

-- no column is chosen
abbrev pub AreUnchosen : List (Option ℕ) → Type 0
AreUnchosen choice = (place : ℕ) → chosen_at choice place ≡ None

-- the same columns are chosen
pub record IsSameChoice (one other : List (Option ℕ)) : Type 0 where
  pub count : length one ≡ length other
  pub chosen : (place : ℕ) → chosen_at one place ≡ chosen_at other place

-- ---- nodes whose columns are still to be taken

-- a number is one of these
abbrev pub is_among : List ℕ → ℕ → Bool
is_among numbers number = list_any (λ (one : ℕ). one == number) numbers

-- each of so many nodes is among these, or has a column
abbrev pub AwaitAll : List ℕ → List (Option ℕ) → Type 0
AwaitAll order choice = (place : ℕ) → place < length choice → chosen_at choice place ≡ None → is_among order place ≡ true

-- ---- columns that a node may have

-- what a node may have, where there is one
abbrev pub candidates_of : Option (Vec ℕ Global) → List ℕ
candidates_of None = []
candidates_of (Some own) = own.items

-- what the node at a place may have
abbrev pub candidates_at : List (Vec ℕ Global) → ℕ → List ℕ
candidates_at candidates place = candidates_of (slice_get candidates place)

-- each column is one that its node may have, as far as these are known
abbrev pub TakeCandidates : List (Vec ℕ Global) → List ℕ → Type 0
TakeCandidates candidates columns = (place : ℕ) → place < length candidates → is_among (candidates_at candidates place) (column_at columns place) ≡ true

-- where columns are kept by all nodes, they are among those that the nodes may have
abbrev pub AreCandidates : List (Vec ℕ Global) → List PlanNode → Type 0
AreCandidates candidates nodes = (columns : List ℕ) → AreInWidths columns nodes → AreKeyed columns [] nodes → TakeCandidates candidates columns

-- the node at a place may have no column
pub record IsBarren (candidates : List (Vec ℕ Global)) (place : ℕ) : Type 0 where
  pub there : place < length candidates
  pub none : candidates_at candidates place ≡ []

-- ---- a search that may be given up

-- the search was given up, where it may be, or memory ran out
abbrev pub IsGivenUp : Option ℕ → KeyFault → Type 0
IsGivenUp tries (key_fault.Unkeyed node) = ⊥
IsGivenUp tries key_fault.Undecided = tries ≢ None
IsGivenUp tries key_fault.OutOfMemory = Unit {0}
