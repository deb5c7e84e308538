use Rattle.std.proofs.Common.{◌≡◌, ◌<◌, ◌+◌, ◌++◌, ◌∷◌, [], List, ℕ, length, get_or, take, ap, sym, ◌∙◌, rules}
use Rattle.std.proofs.lemmas.List.{take_more, flat_map_more}
use Rattle.cedr_base.specs.declared.change.Message.{Message}
use Rattle.stream_text.specs.MessageTexts.{message_text, messages_text}
use Rattle.stream_text.proofs.message.write_messages.Goals as goal

pub loop-message-preserved : goal.loop-message-preserved
loop-message-preserved c =
    let ms = c.args.messages.now in
    let i = c.loop-message.message-index in
    let one = c.message-item.result in
    let first = c.args.out.now.items in
    let at : get_or ms i one ≡ one = search rules in
    let within : i < length ms = search rules in
    let more : take (i + 1) ms ≡ take i ms ++ one ∷ [] = take_more ms i one within ∙ ap (λ (x : Message). take i ms ++ x ∷ []) at in
    c.in_ok-write_message.ensures
    ∙ (ap (λ (t : List ℕ). t ++ message_text one) c.loop-message.invariant
    ∙ (flat_map_more message_text first (take i ms) one ∙ ap (λ (xs : List Message). first ++ messages_text xs) (sym more)))
