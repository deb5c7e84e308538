-- What a pool's queue knows of its tasks: a number for each, and the place of the task under it.
use Rattle.std.specs.Prelude.{ℕ, ◌≤◌, ◌==◌, List, [], ◌∷◌, sum_by, if◌then◌else◌}
use Rattle.pool_queue.specs.declared.claim.Entry.{Entry}
use Rattle.pool_queue.specs.declared.numbered.Numbered.{Numbered}

-- the number of a task, and its place
abbrev pub entry_of : {X : Type 0} {T : Type 0} → (T → X) → Numbered T → Entry X
entry_of place n = record { number = n.number; place = place n.task }

-- 1 where the entry has this number, and else 0
abbrev pub has_number : {X : Type 0} → ℕ → Entry X → ℕ
has_number n e = if e.number == n then 1 else 0

-- how often a number stands among some entries
abbrev pub times : {X : Type 0} → ℕ → List (Entry X) → ℕ
times n entries = sum_by (has_number n) entries

-- each number stands there once at most
abbrev pub AreNumberedApart : {X : Type 0} → List (Entry X) → Type 0
AreNumberedApart entries = (n : ℕ) → times n entries ≤ 1

-- all but those of this number
abbrev pub other_than : {X : Type 0} → ℕ → List (Entry X) → List (Entry X)
other_than n [] = []
other_than n (e ∷ es) = if e.number == n then other_than n es else e ∷ other_than n es
