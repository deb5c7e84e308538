-- Words of the proofs of these laws.
use Rattle.std.specs.Prelude.{ℕ, ◌≡◌, ◌⊎◌, List, [], ◌∷◌, cond, nat_lt, sum_by}
use Rattle.std.specs.declared.cmp.Ordering.{Ordering}
use Rattle.std.specs.declared.cmp.Ordering.TheVariants.{Equal}
use Rattle.std.specs.Cmp.{IsTotalOrder}
use Rattle.cedr_base.specs.declared.field.Field.{Field}
use Rattle.cedr_living.specs.Lives.{Living}

-- what counts of the lives that end after a time
abbrev pub late_only : ℕ → (Living → ℕ) → Living → ℕ
late_only t w l = cond (nat_lt t l.end) (w l) 0

-- a field is among some
abbrev pub IsAmong : Field → List Field → Type 0
IsAmong g [] = ⊥
IsAmong g (f ∷ fs) = (g ≡ f) ⊎ IsAmong g fs

-- the same bag of fields: what is summed over all of them is the same
abbrev pub SameFields : List Field → List Field → Type 0
SameFields fs gs = (w : Field → ℕ) → sum_by w fs ≡ sum_by w gs

-- an order of fields is total, and those that it takes for one are one
pub record IsFieldOrder (cmp : Field → Field → Ordering) : Type 0 where
  pub total : IsTotalOrder cmp
  pub exact : (f g : Field) → cmp f g ≡ Equal → f ≡ g
