-- The rule of a pool's queue: the tasks in the queue, and those that the passes hold, are together those that were opened,
-- each once.
use Rattle.std.specs.Prelude.{◌≡◌, ◌≢◌, ℕ, List, [], ◌∷◌, ◌++◌, map, sum_by, IsPermutation}
use mathlib.Core.Option.{some}
use lib.ListN.{get_elem?}
use Rattle.pool_queue.specs.declared.claim.Claim.{Claim}
use Rattle.pool_queue.specs.declared.claim.Entry.{Entry}
use Rattle.pool_queue.specs.declared.numbered.Numbered.{Numbered}
use Rattle.pool_queue.specs.Entries.{AreNumberedApart, entry_of}

-- the parts of all passes together
abbrev pub all_parts : ℕ
all_parts = 1024

-- the view of a pass: its parts, what was opened, and what it holds
abbrev pub claim : {X : Type 0} → ℕ → List (Entry X) → List (Entry X) → Claim X
claim parts opened held = record { parts = parts; opened = opened; held = held }

abbrev pub claim_parts : {X : Type 0} → Claim X → ℕ
claim_parts v = v.parts

-- what the passes hold
abbrev pub all_held : {X : Type 0} → List (Claim X) → List (Entry X)
all_held [] = []
all_held (v ∷ vs) = v.held ++ all_held vs

-- A pass with a part knows what was opened. One that was joined away has no part, and holds nothing.
pub record FitsClaim {X : Type 0} (opened : List (Entry X)) (v : Claim X) : Type 0 where
  pub knows : v.parts ≢ 0 → v.opened ≡ opened
  pub spent : v.parts ≡ 0 → v.held ≡ []

pub record IsOnce {X : Type 0} {T : Type 0} (place : T → X) (items : List (Numbered T)) (views : List (Claim X)) : Type 0 where
  pub opened : List (Entry X)
  pub apart : AreNumberedApart opened
  pub each : IsPermutation (map (entry_of place) items ++ all_held views) opened
  pub parts : sum_by claim_parts views ≡ all_parts
  pub fit : (port : ℕ) (v : Claim X) → get_elem? views port ≡ some v → FitsClaim opened v
