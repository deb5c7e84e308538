-- What contracts see of an out edge and of the messages that are meant for it.
use Rattle.std.specs.Prelude.{ℕ, List, [], ◌∷◌, Option, None, Some}
use Rattle.atomic_table.specs.Seated.{TableId}
use Rattle.cedr_base.specs.declared.change.Message.{Message}
use Rattle.cedr_base.specs.declared.change.Message.TheVariants as message
use Rattle.worker_outlets.specs.declared.last.Last.{Last}
use Rattle.worker_outlets.specs.declared.last.Last.TheVariants as last

-- The edge, what was sent, what is pending, what is set down beside it and isn't meant to be sent yet, and how many
-- puts found the queue full.
pub record Outgoing : Type 0 where
  pub edge : TableId
  pub sent : List Message
  pub pending : List Message
  pub staged : List Message
  pub refused : ℕ

-- the message that a list ends with
abbrev pub last_message : Last → Message
last_message last.End = message.End
last_message last.Broken = message.Broken

-- that message, or nothing
abbrev pub last_messages : Option Last → List Message
last_messages None = []
last_messages (Some l) = last_message l ∷ []
