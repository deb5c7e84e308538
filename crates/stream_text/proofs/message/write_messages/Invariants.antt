use Rattle.std.proofs.Common.{◌≡◌, ◌++◌, take}
use Rattle.stream_text.specs.MessageTexts.{messages_text}
use Rattle.stream_text.proofs.message.write_messages.Given as goal

abbrev pub invariant-loop-message : goal.invariant-loop-message
invariant-loop-message l = l.out.items ≡ l.initial.out.items ++ messages_text (take l.message-index l.messages)
