-- Runs that go on, over middle ports.
use Rattle.std.specs.Prelude.{ℕ, ◌≡◌, ◌<◌, List, ◌∷◌, ◌++◌, length, Some, None, false}
use Rattle.cedr_base.specs.declared.level.Level.{Level}
use Rattle.cedr_base.specs.declared.change.Message.{Message}
use Rattle.cedr_base.specs.Messages.{IsLegal, mark_of}
use Rattle.cedr_plan.specs.declared.plan.PlanNode.{PlanNode}
use Rattle.cedr_table.specs.Operators.{mark_at}
use Rattle.node_laws.specs.Lists.{Lists, list_at}
use Rattle.node_laws.specs.Pass.{has_end}
use Rattle.node_laws.specs.Lawful.{has_broken}

-- a middle level holds nothing back and forgets nothing
pub record IsMiddle (level : Level) : Type 0 where
  pub block : level.block ≡ Some 0
  pub memory : level.memory ≡ None

-- a list that goes on: legal, without its End, and not broken
pub record IsGoing (ms : List Message) : Type 0 where
  pub legal : IsLegal ms
  pub going : has_end ms ≡ false
  pub unbroken : has_broken ms ≡ false

-- each of so many lists goes on
abbrev pub AllGoing : ℕ → Lists → Type 0
AllGoing count lists = (k : ℕ) → k < count → IsGoing (list_at lists k)

-- each of so many nodes has the middle level
abbrev pub AreMiddle : ℕ → List PlanNode → Type 0
AreMiddle count nodes = (before after : List PlanNode) (n : PlanNode) → nodes ≡ before ++ n ∷ after → length before < count → IsMiddle n.level

-- each of so many lists has its mark
abbrev pub AreMarks : ℕ → Lists → List ℕ → Type 0
AreMarks count lists marks = (k : ℕ) → k < count → mark_of (list_at lists k) ≡ mark_at marks k
