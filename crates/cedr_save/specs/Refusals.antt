-- The line that is named where bytes aren't a checkpoint.
use Rattle.std.specs.Prelude.{ℕ, zero, suc, ◌≡◌, ◌<◌, ◌≤◌, ◌+◌, ◌==◌, ◌⊎◌, List, [], ◌∷◌, ◌++◌, length, map, if◌then◌else◌, Result, Ok, Err, Vec}
use Rattle.std.specs.Global.{Global}
use Rattle.cedr_base.specs.Bytes.{line_feed}
use Rattle.cedr_text.specs.Lines.{raw_lines}
use Rattle.cedr_guard.specs.declared.state.SourceState.{SourceState}
use Rattle.cedr_guard.specs.Spelt.{State, state_in}
use Rattle.cedr_save.specs.declared.fault.CheckpointFault.{CheckpointFault}
use Rattle.cedr_save.specs.declared.fault.CheckpointFault.TheVariants as fault
use Rattle.cedr_save.specs.declared.reader.TheConstants.{CHECKPOINT_LIMIT}
use Rattle.cedr_save.specs.Checkpoints.{Source, AreSaved, checkpoint_text, IsCheckpoint}

-- bytes with which some text of this form begins, however long it is
pub record CanGoOn (sources : List Source) (bytes : List ℕ) : Type 0 where
  pub states : List State
  pub more : List ℕ
  pub saved : AreSaved sources states
  pub text : bytes ++ more ≡ checkpoint_text sources states

-- the bytes up to and with the line of this number
abbrev pub first_lines : ℕ → List ℕ → List ℕ
first_lines number [] = []
first_lines zero (b ∷ bytes) = []
first_lines (suc number) (b ∷ bytes) = b ∷ first_lines (if b == line_feed then number else suc number) bytes

-- how many lines bytes have; what stands after the last line feed is one where there is anything
abbrev pub line_count : List ℕ → ℕ
line_count bytes = length (raw_lines bytes)

-- no states are spelt by these bytes
abbrev pub IsNoText : List Source → List ℕ → Type 0
IsNoText sources bytes = (states : List State) → AreSaved sources states → bytes ≡ checkpoint_text sources states → ⊥

-- The first line with which no text of this form can go on; or, where each of the lines can go on and the text stops
-- early, the number of its lines plus one.
pub record IsBadLine (sources : List Source) (bytes : List ℕ) (line : ℕ) : Type 0 where
  pub before : (number : ℕ) → number < line → CanGoOn sources (first_lines number bytes)
  pub here : ((line ≤ line_count bytes) × (CanGoOn sources (first_lines line bytes) → ⊥)) ⊎ ((line ≡ line_count bytes + 1) × IsNoText sources bytes)

-- bytes are refused at a line: those over the limit as a whole, at the line 0
abbrev pub RefusesBytes : List Source → List ℕ → ℕ → Type 0
RefusesBytes sources bytes line = ((CHECKPOINT_LIMIT < length bytes) × (line ≡ 0)) ⊎ ((length bytes ≤ CHECKPOINT_LIMIT) × IsBadLine sources bytes line)

-- the states that bytes spell, or the line at which they aren't a checkpoint
abbrev pub ReadsCheckpoint : Result (Vec SourceState Global) CheckpointFault → List Source → List ℕ → Type 0
ReadsCheckpoint (Ok states) sources bytes = IsCheckpoint sources (map state_in states.items) bytes
ReadsCheckpoint (Err (fault.BadLine line)) sources bytes = RefusesBytes sources bytes line
ReadsCheckpoint (Err fault.OutOfMemory) sources bytes = Unit {0}
