-- One who reads the result while it grows.
use Rattle.std.specs.Prelude.{◌≡◌, Bool, true, false, List}
use mathlib.Core.List.{IsPrefix}
use Rattle.cedr_base.specs.declared.change.Change.{Change}
use Rattle.cedr_history.specs.Ends.{ReaderSeen}
use Rattle.cedr_history.specs.Lists.{Extends}

-- the reader of the same list saw no less
pub record ReadsOn (old new : ReaderSeen) : Type 0 where
  pub history : new.history ≡ old.history
  pub last : new.last ≡ old.last
  pub later : Extends old.seen new.seen

-- a watcher that stands for first changes of what the reader has seen, by what it reported of them
abbrev pub Watches : {W O : Type 0} → (W → O → List Change → Type 0) → W → O → ReaderSeen → Type 0
Watches stands watcher out reads = (list : List Change) × stands watcher out list × IsPrefix list reads.seen.changes

-- a watcher that lacked memory isn't asked again
abbrev pub IsAskedNoMore : Bool → Bool → Type 0
IsAskedNoMore lacked asked = lacked ≡ true → asked ≡ false
