-- What a bag of lives keeps of them.
use Rattle.std.specs.Prelude.{ℕ, ◌≡◌, ◌≤◌, ◌⊎◌, List, [], ◌∷◌, nat_lt, map, sum_by}
use Rattle.std.specs.List.{filter}
use Rattle.cedr_living.specs.declared.ending.Ending.{Ending}
use Rattle.cedr_living.specs.declared.index.Index.{Index}
use Rattle.cedr_living.specs.declared.living.LivingFields.{LivingFields}
use Rattle.cedr_living.specs.Lives.{Living}
use Rattle.cedr_living.specs.Counts.{counted}
use Rattle.cedr_living.specs.Ends.{end_count, is_end, life_of}
use Rattle.cedr_living.specs.Indexes.{Indexes, IsBareIndex}

-- the lives that end after a time
abbrev pub after : ℕ → List Living → List Living
after t lives = filter (λ (l : Living). nat_lt t l.end) lives

-- Some lives and no others are held: the index keeps them, and each of them counts among the ends.
pub record Holds (of : Index) (by : List (Ending × ℕ)) (lives : List Living) : Type 0 where
  pub index : Indexes of lives
  pub ends : (e : Ending) → end_count by e ≡ counted (sum_by (is_end e) lives)

-- A bag keeps some lives: it holds those of them that end after its time.
abbrev pub KeepsLives : LivingFields → List Living → Type 0
KeepsLives bag lives = Holds bag.index bag.ends.entries (after bag.from lives)

-- nothing is kept
abbrev pub IsEmpty : LivingFields → Type 0
IsEmpty bag = (bag.ends.entries ≡ []) × IsBareIndex bag.index

-- all lives have ended by a time: what is 0 of each life that has sums up to 0
abbrev pub AllEnd : ℕ → List Living → Type 0
AllEnd t lives = (w : Living → ℕ) → ((l : Living) → l.end ≤ t → w l ≡ 0) → sum_by w lives ≡ 0

-- what a bag holds, in the order of the ends: one life for all that are equal
abbrev pub held_lives : LivingFields → List Living
held_lives bag = map (λ (e : Ending × ℕ). life_of e.0) bag.ends.entries

-- a life is among some
abbrev pub IsAmongLives : Living → List Living → Type 0
IsAmongLives life [] = ⊥
IsAmongLives life (l ∷ lives) = (life ≡ l) ⊎ IsAmongLives life lives
