-- What came over a wire and what went, one after the other.
use Rattle.std.specs.Prelude.{ℕ, ◌≡◌, List, [], ◌∷◌, ◌++◌, take, Option, None, Some, Result, Ok, Err}
use Rattle.std.specs.Io.KnownBytes.{Appends}
use Rattle.cedr_io.specs.declared.fault.OutsideFault.{OutsideFault}
use Rattle.cedr_io.specs.declared.fault.OutsideFault.TheVariants as outside
use Rattle.cedr_script.specs.declared.step.WireStep.{WireStep}
use Rattle.cedr_script.specs.declared.step.WireStep.TheVariants as wire_step

-- a log that is known grows by these steps
abbrev pub LogGrows : Option (List WireStep) → Option (List WireStep) → List WireStep → Type 0
LogGrows None new steps = Unit {0}
LogGrows (Some old) None steps = ⊥
LogGrows (Some old) (Some new) steps = new ≡ old ++ steps

-- a read is logged: its bytes, or that it was refused. One for which memory ran out isn't
abbrev pub LogsRead : Result ℕ OutsideFault → Option (List WireStep) → Option (List WireStep) → List ℕ → Type 0
LogsRead (Ok count) old new buf = LogGrows old new (wire_step.Came (take count buf) ∷ [])
LogsRead (Err outside.Failed) old new buf = LogGrows old new (wire_step.Refused ∷ [])
LogsRead (Err outside.OutOfMemory) old new buf = LogGrows old new []

-- the bytes of a write are logged that were taken. A refused one took none
abbrev pub LogsWrite : Result ℕ OutsideFault → Option (List WireStep) → Option (List WireStep) → List ℕ → Type 0
LogsWrite (Ok count) old new piece = LogGrows old new (wire_step.Went (take count piece) ∷ [])
LogsWrite (Err fault) old new piece = LogGrows old new []

-- the bytes that came, one after the other
abbrev pub came : List WireStep → List ℕ
came [] = []
came (wire_step.Came bytes ∷ steps) = bytes ++ came steps
came (wire_step.Refused ∷ steps) = came steps
came (wire_step.Went bytes ∷ steps) = came steps

-- those that went
abbrev pub went : List WireStep → List ℕ
went [] = []
went (wire_step.Came bytes ∷ steps) = went steps
went (wire_step.Refused ∷ steps) = went steps
went (wire_step.Went bytes ∷ steps) = bytes ++ went steps

-- nothing was read
abbrev pub AreWrites : List WireStep → Type 0
AreWrites [] = Unit {0}
AreWrites (wire_step.Came bytes ∷ steps) = ⊥
AreWrites (wire_step.Refused ∷ steps) = ⊥
AreWrites (wire_step.Went bytes ∷ steps) = AreWrites steps

-- a log grew by writes of these bytes
pub record Sends (old new : Option (List WireStep)) (bytes : List ℕ) : Type 0 where
  pub steps : List WireStep
  pub grows : LogGrows old new steps
  pub writes : AreWrites steps
  pub all : went steps ≡ bytes

-- known bytes grew by a front of these, and a log by writes of just that front
pub record SendsFront (written_before written : Option (List ℕ)) (old new : Option (List WireStep)) (bytes : List ℕ) : Type 0 where
  pub count : ℕ
  pub appends : Appends written_before written (take count bytes)
  pub sends : Sends old new (take count bytes)
