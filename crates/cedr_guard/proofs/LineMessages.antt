-- The messages of a source line by line are its messages.
use Rattle.std.proofs.Common.{◌≡◌, ℕ, List, [], ◌∷◌, ◌++◌, refl, ap, sym, ◌∙◌, append_assoc}
use Rattle.std.specs.Prelude.{map}
use Rattle.cedr_base.specs.declared.change.Message.{Message}
use Rattle.cedr_text.specs.declared.event_line.EventLine.{EventLine}
use Rattle.cedr_text.specs.declared.event_line.Shape.{Shape}
use Rattle.cedr_guard.specs.Messages.{line_messages, messages_behind, entries_behind, messages_in}
use Rattle.cedr_guard.specs.Sources.{judged, ending, messages_of, messages_by_line}

-- what entries hold together
pub held_append : (xs ys : List (List Message)) → messages_in (xs ++ ys) ≡ messages_in xs ++ messages_in ys
held_append [] ys = refl
held_append (entry ∷ xs) ys = ap (λ ms. entry ++ ms) (held_append xs ys) ∙ sym (append_assoc entry (messages_in xs) (messages_in ys))

held_all : (ms : List Message) → messages_in (map (λ (m : Message). m ∷ []) ms) ≡ ms
held_all [] = refl
held_all (m ∷ ms) = ap (λ rest. m ∷ rest) (held_all ms)

-- the messages of lines are those that their entries hold
pub lines_held : (before lines : List EventLine) → messages_in (entries_behind before lines) ≡ messages_behind before lines
lines_held before [] = refl
lines_held before (line ∷ lines) = ap (λ ms. line_messages before line ++ ms) (lines_held (before ++ line ∷ []) lines)

-- a source's messages are those that its lines and its end have
pub by_line : (shape : Shape) (bytes : List ℕ) → messages_in (messages_by_line shape bytes) ≡ messages_of shape bytes
by_line shape bytes =
    let good = (judged shape bytes).good in
    let last = ending (judged shape bytes).fault in
    let entries = map (λ (m : Message). m ∷ []) last in
    held_append (entries_behind [] good) entries ∙ (ap (λ ms. ms ++ messages_in entries) (lines_held [] good) ∙ ap (λ ms. messages_behind [] good ++ ms) (held_all last))
