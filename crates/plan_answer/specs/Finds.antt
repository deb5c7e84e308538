-- The sources of a plan, found by the names of their files and given back.
use Rattle.std.specs.Prelude.{ℕ, ◌≡◌, List, [], ◌∷◌, ◌++◌, map, Option, Result, Ok, Err}
use Rattle.cedr_io.specs.Counts.{count_sum}
use Rattle.cedr_io.specs.declared.fault.OutsideFault.{OutsideFault}
use Rattle.cedr_plan.specs.declared.plan.PlanNode.{PlanNode}
use Rattle.plan_answer.specs.Sources.{AsksFirst, source_files}

-- what each source has left is what its file holds, in the order of the plan
abbrev pub AreFound : {S : Type 0} → (S → Option (List ℕ)) → (List ℕ → Option (List ℕ)) → List PlanNode → List S → Type 0
AreFound rest content nodes sources = map rest sources ≡ map content (source_files nodes)

-- all names are asked for, or the first ones
abbrev pub AsksSources : {T : Type 0} → Result T OutsideFault → List (List ℕ) → List (List ℕ) → List (List ℕ) → Type 0
AsksSources (Ok done) old new names = new ≡ old ++ names
AsksSources (Err fault) old new names = AsksFirst old new names

-- a count to which the counts of sources that are given back are added, one after the other
abbrev pub count_with : {S : Type 0} → (S → ℕ) → ℕ → List S → ℕ
count_with faults count [] = count
count_with faults count (s ∷ sources) = count_with faults (count_sum count (faults s)) sources
