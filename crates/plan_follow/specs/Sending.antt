-- What is known of a wire and of where faults are told, and what sending does to it.
use Rattle.std.specs.Prelude.{ℕ, ◌≡◌, List, take, Option, Result, Ok, Err}
use Rattle.std.specs.Io.KnownBytes.{Appends, Consumes, IsAtEnd, Keeps}
use Rattle.cedr_io.specs.Asked.{AppendsFront}
use Rattle.cedr_io.specs.declared.fault.OutsideFault.TheVariants as outside
use Rattle.cedr_script.specs.Logs.{Sends, SendsFront, LogsRead}
use Rattle.cedr_script.specs.declared.step.WireStep.{WireStep}
use Rattle.plan_follow.specs.Following.{OutsideSeen, ToldAll, ToldFront}
use Rattle.plan_follow.specs.declared.fault.FollowFault.{FollowFault}
use Rattle.plan_follow.specs.declared.fault.FollowFault.TheVariants as follow_fault

-- what is known of both
abbrev pub outside_of : {W E : Type 0} → (W → Option (List ℕ)) → (W → Option (List ℕ)) → (W → Option (List WireStep)) → (E → ℕ) → (E → Option (List ℕ)) → W → E → OutsideSeen
outside_of rest written log faults told wire err = record { rest = rest wire; written = written wire; log = log wire; told_faults = faults err; told = told err }

-- a log grew by writes alone
abbrev pub GrowsByWrites : Option (List WireStep) → Option (List WireStep) → Type 0
GrowsByWrites old new = (bytes : List ℕ) × Sends old new bytes

-- nothing was read
pub record OnlyWrites (old new : OutsideSeen) : Type 0 where
  pub rest : Keeps old.rest new.rest
  pub log : GrowsByWrites old.log new.log

-- a text was written, or a front of it, and nothing was read
abbrev pub SendsText : Result (Unit {0}) FollowFault → Option (List ℕ) → Option (List ℕ) → Option (List WireStep) → Option (List WireStep) → List ℕ → Type 0
SendsText (Ok done) old new log logs text = Sends log logs text × Appends old new text
SendsText (Err follow_fault.Read) old new log logs text = ⊥
SendsText (Err follow_fault.Write) old new log logs text = SendsFront old new log logs text
SendsText (Err follow_fault.OutOfMemory) old new log logs text = SendsFront old new log logs text

-- a text was told, unless that was refused; or memory ran out behind a front of it
abbrev pub TellsOf : Result (Unit {0}) FollowFault → ℕ → ℕ → Option (List ℕ) → Option (List ℕ) → List ℕ → Type 0
TellsOf (Ok done) faults new_faults old new said = ToldAll faults new_faults old new said
TellsOf (Err follow_fault.OutOfMemory) faults new_faults old new said = ToldFront faults new_faults old new said
TellsOf (Err follow_fault.Read) faults new_faults old new said = ⊥
TellsOf (Err follow_fault.Write) faults new_faults old new said = ⊥

-- a text was written and what is told was told, or a front of each
abbrev pub SendsBoth : Result (Unit {0}) FollowFault → OutsideSeen → OutsideSeen → List ℕ → List ℕ → Type 0
SendsBoth (Ok done) old new text said = Keeps old.rest new.rest × Sends old.log new.log text × Appends old.written new.written text × ToldAll old.told_faults new.told_faults old.told new.told said
SendsBoth (Err follow_fault.Read) old new text said = ⊥
SendsBoth (Err follow_fault.Write) old new text said = OnlyWrites old new × AppendsFront old.written new.written text × ToldFront old.told_faults new.told_faults old.told new.told said
SendsBoth (Err follow_fault.OutOfMemory) old new text said = OnlyWrites old new × AppendsFront old.written new.written text × ToldFront old.told_faults new.told_faults old.told new.told said

-- a piece was read, or the read was refused
abbrev pub ReadsPiece : Result ℕ FollowFault → Option (List ℕ) → Option (List ℕ) → Option (List WireStep) → Option (List WireStep) → List ℕ → Type 0
ReadsPiece (Ok count) rest left old new buf = Consumes rest left (take count buf) × (count ≡ 0 → IsAtEnd left) × LogsRead (Ok count) old new buf
ReadsPiece (Err follow_fault.Read) rest left old new buf = Keeps rest left × LogsRead (Err outside.Failed) old new buf
ReadsPiece (Err follow_fault.Write) rest left old new buf = ⊥
ReadsPiece (Err follow_fault.OutOfMemory) rest left old new buf = Keeps rest left × LogsRead (Err outside.OutOfMemory) old new buf
