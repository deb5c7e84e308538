-- Entries that are kept as their messages and how many each has.
use Rattle.std.proofs.Common.{◌≡◌, ℕ, ◌+◌, ◌≤◌, zero, suc, List, [], ◌∷◌, ◌++◌, true, false, length, take, drop, refl, ap, sym, ◌∙◌, subst, append-nil, arith}
use Rattle.std.specs.Prelude.{nat_eq, sum_by}
use Rattle.std.proofs.lemmas.List.Sums.{sum_by-cons}
use Rattle.std.proofs.lemmas.Bool.{eqb-true}
use Rattle.std.proofs.lemmas.List.{length-append, length-drop, take_all}
use Rattle.cedr_base.specs.declared.change.Message.{Message}
use Rattle.cedr_base.specs.declared.change.Message.TheVariants as message
use Rattle.cedr_text.specs.declared.event_line.Shape.{Shape}
use Rattle.cedr_guard.specs.Messages.{messages_in}
use Rattle.cedr_guard.specs.Sources.{messages_by_line}
use Rattle.cedr_source.specs.declared.read.Reading.{Reading}
use Rattle.cedr_source.specs.declared.step.SourceStep.TheVariants as step
use Rattle.cedr_source.specs.Entries.{entries_by}
use Rattle.cedr_source.specs.Reads.{ReadsByLine}
use Rattle.cedr_source.specs.Steps.{AnswersEntry, line_entry}
use Rattle.cedr_source.specs.Whole.{read_entries, HoldsRead, IsClosedByLine}

-- ---- the first messages

one_first : (x m : Message) (ms rest : List Message) → ◌≡◌ {A = List Message} (x ∷ ms) (m ∷ rest) → ◌≡◌ {A = List Message} (x ∷ []) (m ∷ [])
one_first x m ms rest is = cc

one_rest : (x m : Message) (ms rest : List Message) → ◌≡◌ {A = List Message} (x ∷ ms) (m ∷ rest) → ms ≡ rest
one_rest x m ms rest is = cc

-- where one is left, it is the next one
pub next_taken : (k : ℕ) (ms rest : List Message) (m : Message) → drop k ms ≡ m ∷ rest → (take (suc k) ms ≡ take k ms ++ m ∷ []) × (drop (suc k) ms ≡ rest)
next_taken zero [] rest m is = cc
next_taken zero (x ∷ ms) rest m is = (one_first x m ms rest is, one_rest x m ms rest is)
next_taken (suc k) [] rest m is = cc
next_taken (suc k) (x ∷ ms) rest m is =
    let more = next_taken k ms rest m is in
    (ap (λ (xs : List Message). x ∷ xs) more.0, more.1)

-- where none is left, there is no next one
pub none_taken : (k : ℕ) (ms : List Message) → drop k ms ≡ [] → (take (suc k) ms ≡ take k ms) × (drop (suc k) ms ≡ [])
none_taken zero [] is = (refl, refl)
none_taken zero (x ∷ ms) is = cc
none_taken (suc k) [] is = (refl, refl)
none_taken (suc k) (x ∷ ms) is =
    let more = none_taken k ms is in
    (ap (λ (xs : List Message). x ∷ xs) more.0, more.1)

-- ---- entries

-- how many messages some entries have
abbrev total : List ℕ → ℕ
total counts = sum_by (λ (n : ℕ). n) counts

-- no message is left where there are none
no_message : (ms : List Message) → 0 ≡ length ms → ms ≡ []
no_message [] none = refl
no_message (m ∷ ms) none = absurd (omega arith)

-- the first messages of a longer list are its own, and so are the others
first_of : (n : ℕ) (ms more : List Message) → n ≤ length ms → (take n (ms ++ more) ≡ take n ms) × (drop n (ms ++ more) ≡ drop n ms ++ more)
first_of zero ms more few = (refl, refl)
first_of (suc n) [] more few = absurd (omega arith)
first_of (suc n) (m ∷ ms) more few =
    let rest = first_of n ms more (omega arith) in
    (ap (λ (xs : List Message). m ∷ xs) rest.0, rest.1)

-- one entry more
pub entries_push : (counts : List ℕ) (ms added : List Message) → total counts ≡ length ms → entries_by (counts ++ length added ∷ []) (ms ++ added) ≡ entries_by counts ms ++ added ∷ []
entries_push [] ms added all =
    ap (λ (front : List Message). take (length added) (front ++ added) ∷ []) (no_message ms all) ∙ ap (λ (xs : List Message). xs ∷ []) (take_all (length added) added (omega arith))
entries_push (count ∷ counts) ms added all =
    let first = first_of count ms added (omega (arith, all, sum_by-cons (λ (n : ℕ). n) count counts)) in
    ap (λ (xs : List Message). xs ∷ entries_by (counts ++ length added ∷ []) (drop count (ms ++ added))) first.0
    ∙ ap (λ (xs : List (List Message)). take count ms ∷ xs) (ap (entries_by (counts ++ length added ∷ [])) first.1 ∙ entries_push counts (drop count ms) added (omega (arith, all, sum_by-cons (λ (n : ℕ). n) count counts, length-drop count ms)))

-- and so many messages more
pub counted_push : (counts : List ℕ) (n : ℕ) → total (counts ++ n ∷ []) ≡ total counts + n
counted_push [] n = omega (arith, sum_by-cons (λ (n : ℕ). n) n [])
counted_push (count ∷ counts) n = omega (arith, counted_push counts n, sum_by-cons (λ (n : ℕ). n) count counts, sum_by-cons (λ (n : ℕ). n) count (counts ++ n ∷ []))

-- ---- the next line was taken

nothing : (line : List ℕ) (added : List Message) → nat_eq (length line) 0 ≡ true → line_entry line added ≡ []
nothing [] added none = refl
nothing (b ∷ bytes) added none = absurd (let e = eqb-true (length (b ∷ bytes)) 0 none in omega arith)

something : (line : List ℕ) (added : List Message) → nat_eq (length line) 0 ≡ false → line_entry line added ≡ added ∷ []
something [] added some = cc
something (b ∷ bytes) added some = refl

-- it is empty: nothing was given
pub empty_held : (old new : Reading) (added : List Message) (shape : Shape) (bytes : List ℕ) → HoldsRead old shape bytes → AnswersEntry step.Line new.lines shape bytes (read_entries old) added → nat_eq (length new.lines.line.items) 0 ≡ true
    → new.messages.items ≡ old.messages.items ++ added → new.counts.items ≡ old.counts.items → HoldsRead new shape bytes
empty_held old new added shape bytes holds answers none messages counts =
    let no_entry = nothing new.lines.line.items added none in
    let no_added : added ≡ [] = sym answers.1 ∙ ap messages_in no_entry in
    let same : new.messages.items ≡ old.messages.items = messages ∙ (ap (λ (ms : List Message). old.messages.items ++ ms) no_added ∙ append-nil old.messages.items) in
    let entries : read_entries new ≡ read_entries old = ap (λ (cs : List ℕ). entries_by cs new.messages.items) counts ∙ ap (entries_by old.counts.items) same in
    record {
      reads = subst (ReadsByLine new.lines shape bytes) (ap (λ (es : List (List Message)). read_entries old ++ es) no_entry ∙ (append-nil (read_entries old) ∙ sym entries)) answers.0;
      counted = ap total counts ∙ (holds.counted ∙ ap (λ (ms : List Message). length ms) (sym same));
    }

-- it has an entry
pub entry_held : (old new : Reading) (added : List Message) (n : ℕ) (shape : Shape) (bytes : List ℕ) → HoldsRead old shape bytes → AnswersEntry step.Line new.lines shape bytes (read_entries old) added → nat_eq (length new.lines.line.items) 0 ≡ false
    → new.messages.items ≡ old.messages.items ++ added → new.counts.items ≡ old.counts.items ++ n ∷ [] → n ≡ length added → HoldsRead new shape bytes
entry_held old new added n shape bytes holds answers some messages counts many =
    let entries : read_entries new ≡ read_entries old ++ added ∷ [] =
    ap (λ (cs : List ℕ). entries_by cs new.messages.items) counts
    ∙ (ap (entries_by (old.counts.items ++ n ∷ [])) messages
    ∙ (ap (λ (k : ℕ). entries_by (old.counts.items ++ k ∷ []) (old.messages.items ++ added)) many
    ∙ entries_push old.counts.items old.messages.items added holds.counted)) in
    record {
      reads = subst (ReadsByLine new.lines shape bytes) (ap (λ (es : List (List Message)). read_entries old ++ es) (something new.lines.line.items added some) ∙ sym entries) answers.0;
      counted = omega (arith, ap total counts, counted_push old.counts.items n, holds.counted, many, ap (λ (ms : List Message). length ms) messages, length-append old.messages.items added);
    }

-- ---- no line was taken

-- where nothing was added the entries are as they were
pub same_entries : (old new : Reading) (added : List Message) → added ≡ [] → new.messages.items ≡ old.messages.items ++ added → new.counts.items ≡ old.counts.items → read_entries new ≡ read_entries old
same_entries old new added none messages counts =
    ap (λ (cs : List ℕ). entries_by cs new.messages.items) counts
    ∙ ap (entries_by old.counts.items) (messages ∙ (ap (λ (ms : List Message). old.messages.items ++ ms) none ∙ append-nil old.messages.items))

-- and they are kept as they should be
pub still_held : (old new : Reading) (added : List Message) (shape : Shape) (bytes : List ℕ) → added ≡ [] → new.messages.items ≡ old.messages.items ++ added → new.counts.items ≡ old.counts.items
    → HoldsRead old shape bytes → ReadsByLine new.lines shape bytes (read_entries old) → HoldsRead new shape bytes
still_held old new added shape bytes none messages counts holds reads = record {
  reads = subst (ReadsByLine new.lines shape bytes) (sym (same_entries old new added none messages counts)) reads;
  counted = ap total counts ∙ (holds.counted ∙ ap (λ (ms : List Message). length ms) (sym (messages ∙ (ap (λ (ms : List Message). old.messages.items ++ ms) none ∙ append-nil old.messages.items))));
}

-- ---- the end

-- with the end all entries are there
pub with_end : (reading : Reading) (counts : List ℕ) (messages : List Message) (shape : Shape) (bytes : List ℕ) → HoldsRead reading shape bytes → messages ≡ reading.messages.items ++ message.End ∷ [] → counts ≡ reading.counts.items ++ 1 ∷ []
    → IsClosedByLine reading shape bytes → entries_by counts messages ≡ messages_by_line shape bytes
with_end reading counts messages shape bytes holds with_last with_one closed =
    ap (λ (cs : List ℕ). entries_by cs messages) with_one
    ∙ (ap (entries_by (reading.counts.items ++ 1 ∷ [])) with_last
    ∙ (entries_push reading.counts.items reading.messages.items (message.End ∷ []) holds.counted ∙ closed.all))
