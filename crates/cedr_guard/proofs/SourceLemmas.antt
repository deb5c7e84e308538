-- The lines that are judged to be good are accepted, so a source's messages are legal.
use Rattle.std.proofs.Common.{◌≡◌, ◌<◌, ◌≤◌, ◌==◌, ◌↔◌, ℕ, ◌+◌, List, [], ◌∷◌, ◌++◌, Bool, true, false, cond, length, take, Option, None, Some, Result, Ok, Err, refl, ap, sym, ◌∙◌, subst, append_assoc, append-nil, arith}
use Rattle.std.specs.Prelude.{nat_lt}
use Rattle.std.proofs.lemmas.Bool.{lt-ltb, ltb-true}
use Rattle.cedr_base.specs.declared.change.Message.{Message}
use Rattle.cedr_base.specs.declared.change.Message.TheVariants as message
use Rattle.cedr_base.specs.Rows.{SameRows}
use Rattle.cedr_base.specs.Changes.{all_puts, all_takes}
use Rattle.cedr_base.specs.Messages.{changes_of, IsTableOf, IsLegal}
use Rattle.cedr_text.specs.declared.event_line.EventLine.{EventLine}
use Rattle.cedr_text.specs.declared.event_line.Shape.{Shape}
use Rattle.cedr_text.specs.declared.fault.LineFault.{LineFault}
use Rattle.cedr_text.specs.declared.fault.LineFault.TheVariants.{LineTooLong}
use Rattle.cedr_text.specs.declared.lines.TheConstants.{LINE_LIMIT}
use Rattle.cedr_text.specs.Lines.{raw_lines, without_return}
use Rattle.cedr_base.specs.Bytes.{line_feed}
use Rattle.cedr_text.specs.Parts.{parts_of}
use Rattle.cedr_text.specs.Reading.{reading, SaysEvent}
use Rattle.cedr_guard.specs.declared.refusal.Refusal.{Refusal}
use Rattle.cedr_guard.specs.declared.refusal.TheConstants.{FILE_LIMIT}
use Rattle.cedr_guard.specs.Judging.{fault_behind, IsAccepted, AreAccepted, AreAcceptedBehind}
use Rattle.cedr_text.specs.Reading.{IsEvent}
use Rattle.cedr_guard.specs.Messages.{messages_behind}
use Rattle.cedr_guard.specs.Sources.{with_event, with_reading, line_reading, Judged, go_on, judged_behind, judged_lines, judged_front, judged, ending, messages_of, history_of_bytes, whole_lines}
use Rattle.cedr_guard.proofs.MessageLemmas.{AreLegalOf, accepted_messages, table_is_history}
use Rattle.change_laws.proofs.Legal.{changes-append, legal-append}
use Rattle.cedr_text.proofs.ReadingLemmas.{unless_long}

-- the law of what lines say
abbrev pub Law : Type 0
Law = (shape : Shape) (line : List ℕ) → SaysEvent (reading shape line)

-- by it a line that isn't too long says an event
line_event : Law → (shape : Shape) (line : List ℕ) → SaysEvent (line_reading shape line)
line_event law shape line = unless_long (nat_lt LINE_LIMIT (length line)) (reading shape (without_return line)) (law shape (without_return line))

-- ---- lines that are too long

a_return_less : (is_return : Bool) (b : ℕ) → length (cond is_return [] (b ∷ [])) ≤ 1
a_return_less true b = omega arith
a_return_less false b = omega arith

shorter : (line : List ℕ) → length (without_return line) ≤ length line
shorter [] = omega arith
shorter (b ∷ []) = a_return_less (b == 13) b
shorter (b ∷ c ∷ bs) = omega (arith, shorter (c ∷ bs))

-- the law of the lines that are too long by themselves
abbrev LongLaw : Type 0
LongLaw = (shape : Shape) (line : List ℕ) → (reading shape line ≡ Err LineTooLong) ↔ (LINE_LIMIT < length line)

long_only : (long : Bool) (n m : ℕ) (read : Result (Option EventLine) LineFault) → nat_lt LINE_LIMIT n ≡ long → m ≤ n → (read ≡ Err LineTooLong → LINE_LIMIT < m) → cond long (Err LineTooLong) read ≡ Err LineTooLong → LINE_LIMIT < n
long_only true n m read is less law e = ltb-true LINE_LIMIT n is
long_only false n m read is less law e = omega (arith, law e, less)

-- exactly a line that has more bytes than it may in the file is too long
pub long_line : LongLaw → (shape : Shape) (line : List ℕ) → (line_reading shape line ≡ Err LineTooLong) ↔ (LINE_LIMIT < length line)
long_line law shape line = (
  long_only (nat_lt LINE_LIMIT (length line)) (length line) (length (without_return line)) (reading shape (without_return line)) refl (shorter line) (law shape (without_return line)).0,
  λ long. ap (λ test. cond test (Err LineTooLong) (reading shape (without_return line))) (lt-ltb LINE_LIMIT (length line) long),
)

-- ---- good lines are accepted

-- accepted lines with one more
pub accepted-push : (front lines : List EventLine) (line : EventLine) → AreAcceptedBehind front lines → IsAccepted (front ++ lines) line → AreAcceptedBehind front (lines ++ line ∷ [])
accepted-push front [] line accepted next = (subst (λ before. IsAccepted before line) (append-nil front) next, tt)
accepted-push front (first ∷ lines) line accepted next =
    (accepted.0, accepted-push (front ++ first ∷ []) lines line accepted.1 (subst (λ before. IsAccepted before line) (sym (append_assoc front (first ∷ []) lines)) next))

-- the lines that are accepted now, unless there was a fault
-- the lines are accepted, where there are any
abbrev pub AreAcceptedNow : Result (List EventLine) LineFault → Type 0
AreAcceptedNow (Ok now) = AreAccepted now
AreAcceptedNow (Err fault) = Unit {0}

-- what an accepted event makes of accepted lines is accepted
pub event_accepted : (before : List EventLine) (line : EventLine) (fault : Option LineFault) → fault_behind before line ≡ fault → AreAccepted before → IsEvent line → AreAcceptedNow (with_event before line fault)
event_accepted before line None none accepted event = accepted-push [] before line accepted (record { event = event; faultless = none })
event_accepted before line (Some fault) is accepted event = tt

-- what a line that says an event, if any, makes of accepted lines is accepted
pub reading_accepted : (before : List EventLine) (read : Result (Option EventLine) LineFault) → AreAccepted before → SaysEvent read → AreAcceptedNow (with_reading before read)
reading_accepted before (Err fault) accepted event = tt
reading_accepted before (Ok None) accepted event = accepted
reading_accepted before (Ok (Some line)) accepted event = event_accepted before line (fault_behind before line) refl accepted event

go_on_accepted : (number : ℕ) (before : List EventLine) (now : Result (List EventLine) LineFault) (rest : List EventLine → Judged) → AreAccepted before → AreAcceptedNow now
    → ((lines : List EventLine) → AreAccepted lines → AreAccepted (rest lines).good) → AreAccepted (go_on number before now rest).good
go_on_accepted number before (Ok now) rest accepted next behind = behind now next
go_on_accepted number before (Err fault) rest accepted next behind = accepted

behind_accepted : Law → (shape : Shape) (count : ℕ) (before : List EventLine) (lines : List (List ℕ)) → AreAccepted before → AreAccepted (judged_behind shape count before lines).good
behind_accepted law shape count before [] accepted = accepted
behind_accepted law shape count before (line ∷ lines) accepted =
    go_on_accepted (count + 1) before (with_reading before (line_reading shape line)) (λ now. judged_behind shape (count + 1) now lines) accepted
    (reading_accepted before (line_reading shape line) accepted (line_event law shape line))
    (λ now next. behind_accepted law shape (count + 1) now lines next)

either_accepted : (test : Bool) (one other : Judged) → AreAccepted one.good → AreAccepted other.good → AreAccepted (cond test one other).good
either_accepted true one other first second = first
either_accepted false one other first second = second

-- the lines of a source before its first fault are accepted
pub good_accepted : Law → (shape : Shape) (bytes : List ℕ) → AreAccepted (judged shape bytes).good
good_accepted law shape bytes =
    let parts = parts_of line_feed (take FILE_LIMIT bytes) in
    either_accepted (nat_lt FILE_LIMIT (length bytes)) (judged_front shape parts) (judged_lines shape (raw_lines bytes))
    (behind_accepted law shape 0 [] (whole_lines parts) tt) (behind_accepted law shape 0 [] (raw_lines bytes) tt)

-- ---- its messages

no_changes : (fault : Option Refusal) → changes_of (ending fault) ≡ []
no_changes None = refl
no_changes (Some refusal) = refl

ended_legal : (lines : List EventLine) (ms : List Message) (fault : Option Refusal) → AreLegalOf lines [] ms → IsLegal (ms ++ ending fault)
ended_legal lines ms None are = legal-append [] ms (message.End ∷ []) are.legal ((are.all.goes_on, tt), tt)
ended_legal lines ms (Some refusal) are = legal-append [] ms [] are.legal tt

-- a source's messages are legal
pub source_messages_legal : Law → (shape : Shape) (bytes : List ℕ) → IsLegal (messages_of shape bytes)
source_messages_legal law shape bytes =
    let good = (judged shape bytes).good in
    ended_legal good (messages_behind [] good) (judged shape bytes).fault (accepted_messages good (good_accepted law shape bytes))

-- their table is the canonical history of the source
pub source_messages_table : Law → (shape : Shape) (bytes : List ℕ) → IsTableOf (messages_of shape bytes) (history_of_bytes shape bytes)
source_messages_table law shape bytes =
    let good = (judged shape bytes).good in
    let ms = messages_behind [] good in
    let fault = (judged shape bytes).fault in
    let same : changes_of ms ≡ changes_of (ms ++ ending fault) = sym (changes-append ms (ending fault) ∙ (ap (λ cs. changes_of ms ++ cs) (no_changes fault) ∙ append-nil (changes_of ms))) in
    let table = table_is_history good ms (accepted_messages good (good_accepted law shape bytes)).all in
    record { sums = subst (λ cs. SameRows (history_of_bytes shape bytes ++ all_takes cs) (all_puts cs)) same table.sums }
