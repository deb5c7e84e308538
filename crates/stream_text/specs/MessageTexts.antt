-- The lines of messages: a stream that is written, with its guarantees.
use Rattle.std.specs.Prelude.{ℕ, List, [], ◌∷◌, ◌++◌, codes}
use Rattle.std.specs.List.{flat_map}
use Rattle.cedr_base.specs.Bytes.{line_feed}
use Rattle.cedr_base.specs.declared.change.Message.{Message}
use Rattle.cedr_base.specs.declared.change.Message.TheVariants as message
use Rattle.cedr_text.specs.Texts.{change_text, time_text}

-- a message as a line: a change as it is written, or `=,` and the time of a mark. An end and a break have none
abbrev pub message_text : Message → List ℕ
message_text (message.Change c) = change_text c
message_text (message.Mark t) = codes "=," ++ (time_text t ++ line_feed ∷ [])
message_text message.End = []
message_text message.Broken = []

-- messages one after the other
abbrev pub messages_text : List Message → List ℕ
messages_text ms = flat_map message_text ms
