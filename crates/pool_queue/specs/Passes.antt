-- What contracts see of a pass of a pool's queue, and of all passes of one.
use Rattle.std.specs.Prelude.{◌≡◌, ℕ, List, [], ◌∷◌, ◌++◌, sum_by}
use Rattle.std.specs.List.{All}
use Rattle.atomic_table.specs.Seated.{TableId}
use Rattle.pool_queue.specs.declared.claim.Entry.{Entry}
use Rattle.pool_queue.specs.Once.{all_parts}

-- the queue, the pass's parts of it, what was opened there, what the pass holds, and how many takes found the queue empty
pub record Holding (X : Type 0) : Type 0 where
  pub queue : TableId
  pub parts : ℕ
  pub opened : List (Entry X)
  pub held : List (Entry X)
  pub refused : ℕ

-- what some passes hold
abbrev pub held_by : {X : Type 0} → List (Holding X) → List (Entry X)
held_by [] = []
held_by (h ∷ hs) = h.held ++ held_by hs

-- the parts of some passes together
abbrev pub parts_in : {X : Type 0} → List (Holding X) → ℕ
parts_in passes = sum_by (λ h. h.parts) passes

-- a pass of this queue, where these entries were opened
abbrev pub IsOf : {X : Type 0} → TableId → List (Entry X) → Holding X → Type 0
IsOf queue opened h = (h.queue ≡ queue) × (h.opened ≡ opened)

-- these are all passes of one queue, where these entries were opened
pub record AreAllOf {X : Type 0} (opened : List (Entry X)) (passes : List (Holding X)) : Type 0 where
  pub queue : TableId
  pub same : All (IsOf queue opened) passes
  pub whole : parts_in passes ≡ all_parts

-- a new pass of this queue, where these entries were opened. It holds nothing
pub record IsNewPass {X : Type 0} (queue : TableId) (opened : List (Entry X)) (h : Holding X) : Type 0 where
  pub of : IsOf queue opened h
  pub none : h.held ≡ []
  pub fresh : h.refused ≡ 0

-- the pass of the same queue, with the same parts, where the same was opened
pub record IsStillPass {X : Type 0} (old new : Holding X) : Type 0 where
  pub queue : new.queue ≡ old.queue
  pub parts : new.parts ≡ old.parts
  pub opened : new.opened ≡ old.opened

-- what is made for a pass before any task is moved: its share of the queue, which has room for so many tasks
pub record Blankness : Type 0 where
  pub queue : TableId
  pub size : ℕ

-- shares of one queue, each with room for so many tasks
abbrev pub AreBlank : TableId → ℕ → List Blankness → Type 0
AreBlank queue size blanks = All (λ (b : Blankness). (b.queue ≡ queue) × (b.size ≡ size)) blanks

-- for how many tasks and passes there is room
pub record Roominess : Type 0 where
  pub tasks : ℕ
  pub workers : ℕ
