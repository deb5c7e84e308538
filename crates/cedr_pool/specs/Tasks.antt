-- The tasks of a pool: what contracts see of each is the worker that it was made of, which is its place too.
use Rattle.std.specs.Prelude.{ℕ, ◌+◌, List, [], ◌∷◌, map, Option}
use Rattle.plan_workers.specs.declared.worker.Worker.{Worker}
use Rattle.plan_workers.specs.Roles.{Role, WorksAs}
use Rattle.pool_queue.specs.declared.claim.Entry.{Entry}
use Rattle.pool_queue.specs.declared.numbered.Numbered.{Numbered}
use Rattle.pool_queue.specs.Entries.{entry_of}

-- the entries of some tasks
abbrev pub tasks_entries : {X : Type 0} → List (Numbered X) → List (Entry X)
tasks_entries tasks = map (entry_of (λ x. x)) tasks

-- some workers, numbered from a place on
abbrev pub numbered_from : {X : Type 0} → ℕ → List X → List (Entry X)
numbered_from place [] = []
numbered_from place (w ∷ ws) = record { number = place; place = w } ∷ numbered_from (place + 1) ws

-- the number of a task
abbrev pub task_number : {X : Type 0} → Numbered X → ℕ
task_number task = task.number

-- the worker of a task
abbrev pub task_worker : {X : Type 0} → Numbered X → X
task_worker task = task.task

-- each of some workers stays what the one at its place was made for, in order
abbrev pub AllStay : {X : Type 0} → (X → X → Type 0) → List X → List X → Type 0
AllStay Stays [] [] = Unit {0}
AllStay Stays [] (y ∷ ys) = ⊥
AllStay Stays (x ∷ xs) [] = ⊥
AllStay Stays (x ∷ xs) (y ∷ ys) = Stays x y × AllStay Stays xs ys

-- a worker was made for something, and works as that
abbrev pub HasRole : {S R : Type 0} → (S → Option (List ℕ)) → (S → ℕ) → Worker S R → Type 0
HasRole rest faults worker = (role : Role) × WorksAs rest faults role worker
