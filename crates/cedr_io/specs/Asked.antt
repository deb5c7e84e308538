-- What a find leaves in the list of names, and a refused write in the bytes that were taken.
use Rattle.std.specs.Prelude.{ℕ, ◌≡◌, List, [], ◌∷◌, ◌++◌, take, Option, Result, Ok, Err}
use Rattle.std.specs.Io.KnownBytes.{Appends}
use Rattle.cedr_io.specs.declared.fault.OutsideFault.{OutsideFault}
use Rattle.cedr_io.specs.declared.fault.OutsideFault.TheVariants as outside

-- each find that doesn't lack memory adds its name at the end
abbrev pub Asks : {T : Type 0} → Result T OutsideFault → List (List ℕ) → List (List ℕ) → List ℕ → Type 0
Asks (Ok x) old new name = new ≡ old ++ name ∷ []
Asks (Err outside.Failed) old new name = new ≡ old ++ name ∷ []
Asks (Err outside.OutOfMemory) old new name = new ≡ old

-- known bytes grow by a front of these
pub record AppendsFront (old new : Option (List ℕ)) (bytes : List ℕ) : Type 0 where
  pub count : ℕ
  pub grows : Appends old new (take count bytes)
