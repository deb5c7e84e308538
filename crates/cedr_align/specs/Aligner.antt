-- What an aligner stands for.
use Rattle.std.specs.Prelude.{◌≡◌, ◌<◌, List, [], ◌∷◌, ◌++◌, Bool}
use Rattle.cedr_base.specs.declared.row.Row.{Row}
use Rattle.cedr_base.specs.declared.change.Message.{Message}
use Rattle.cedr_base.specs.Rows.{count_of, SameRows}
use Rattle.cedr_base.specs.Messages.{mark_of, IsLegal}
use Rattle.node_laws.specs.declared.forgotten.Forgotten.{Forgotten}
use Rattle.node_laws.specs.Kept.{high_of, forgotten_of}
use Rattle.node_laws.specs.Pass.{has_end, is_held, held, passed_of}
use Rattle.cedr_align.specs.Remembered.{is_remembered, remembered}
use Rattle.cedr_align.specs.declared.aligner.Aligner.{Aligner}
use Rattle.cedr_align.specs.declared.fate.Fate.{Fate}
use Rattle.cedr_align.specs.declared.fate.Fate.TheVariants as fate

-- the aligner stands for a list that it took
pub record Aligns (a : Aligner) (ms : List Message) : Type 0 where
  pub legal : IsLegal ms
  pub mark_is : a.mark ≡ mark_of ms
  pub high_is : a.high ≡ high_of ms
  pub ended_is : a.ended ≡ has_end ms
  pub held_are : SameRows a.held (held a.level ms)
  pub passed_are : SameRows a.passed (remembered a.level ms)

-- what a fate lists
abbrev pub forgotten_in : Fate → List Forgotten
forgotten_in fate.Kept = []
forgotten_in (fate.Forgotten f) = f ∷ []

-- the aligner took a message after a list: it stands for the longer list, passed on what that message passes on,
-- and said what it forgot
pub record IsTaken (old new : Aligner) (ms : List Message) (m : Message) (before after : List Message) (fate : Fate) : Type 0 where
  pub aligns : Aligns new (ms ++ m ∷ [])
  pub passed_on : after ≡ before ++ passed_of old.level ms m
  pub fate_is : forgotten_in fate ≡ forgotten_of old.level.memory ms m
  pub same_level : new.level ≡ old.level

-- Each row of which the aligner has a copy is a held one, or a passed one that is remembered. None is left of those that
-- were released.
pub record OnlyKeeps (a : Aligner) (ms : List Message) : Type 0 where
  pub each : (r : Row) → 0 < count_of r (a.held ++ a.passed) → 0 < count_of r (held a.level ms ++ remembered a.level ms)
  pub none_released : a.released.items ≡ []

-- a row must wait, at an aligner's level and times
abbrev pub must_wait : Aligner → Row → Bool
must_wait a r = is_held a.level.block a.ended a.mark a.high r

-- a row that passed must be remembered, at an aligner's level and times
abbrev pub must_remember : Aligner → Row → Bool
must_remember a r = is_remembered a.level.memory a.ended a.mark a.high r

-- nothing of an aligner changed but its rows
pub record HasSameTimes (old new : Aligner) : Type 0 where
  pub level : new.level ≡ old.level
  pub mark : new.mark ≡ old.mark
  pub high : new.high ≡ old.high
  pub ended : new.ended ≡ old.ended
