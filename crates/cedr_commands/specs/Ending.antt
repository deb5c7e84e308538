-- The contract of the top call: what its status means, when it may come, and what it leaves.
use Rattle.std.specs.Prelude.{ℕ, ◌≡◌, ◌≢◌, ◌⊎◌, List, Option, None, Some}
use Rattle.cedr_commands.specs.declared.outcome.Outcome.{Outcome}
use Rattle.cedr_commands.specs.declared.outcome.Outcome.TheVariants as outcome
use Rattle.cedr_commands.specs.declared.status.Status.{Status}
use Rattle.cedr_commands.specs.declared.status.Status.TheVariants as status
use Rattle.cedr_commands.specs.Commands.{Command}
use Rattle.cedr_commands.specs.Outcomes.{status_of, outcome_text, TellsLack, CommandEnds, AsksOnly}
use Rattle.cedr_commands.specs.Seen.{FilesSeen, SinkSeen, SinkGains}

-- what the words led to: where they match no command, only that
abbrev pub CameTo : Option Command → FilesSeen → FilesSeen → SinkSeen → SinkSeen → Outcome → Type 0
CameTo None files files' out out' o = ((o ≡ outcome.Usage) ⊎ (o ≡ outcome.OutOfMemory)) × (files' ≡ files) × (out' ≡ out)
CameTo (Some command) files files' out out' o = CommandEnds command files files' out out' o × AsksOnly command files files'

-- A call whose words name this command, or match none. Its status is that of how it went, and err gained the text for that,
-- or a front of it where a write to err was refused. Where memory ran out err may have gained the words for that instead.
-- All files hold what they held.
pub record Ends (command : Option Command) (files files' : FilesSeen) (out out' err err' : SinkSeen) (s : Status) : Type 0 where
  pub went : Outcome
  pub came : CameTo command files files' out out' went
  pub answered : (s ≡ status_of went) ⊎ (s ≡ status.OutOfMemory)
  pub reported : s ≢ status.OutOfMemory → SinkGains err err' (outcome_text went)
  pub lacking : s ≡ status.OutOfMemory → TellsLack err err' (outcome_text went)
  pub contents : (name : List ℕ) → files'.content name ≡ files.content name
