-- A whole source: its blocks, and its end.
use Rattle.std.proofs.Common.{◌≡◌, ℕ, ◌<◌, ◌≤◌, List, [], ◌++◌, true, false, length, Option, None, Some, Result, Ok, Err, refl, ap, sym, ◌∙◌, subst, append-nil, inl, inr, ◌⊎◌, arith}
use Rattle.std.specs.Prelude.{IfSome, unwrap_or}
use Rattle.std.specs.Io.KnownBytes.{IsAtEnd}
use Rattle.std.proofs.lemmas.Bool.{false≢true}
use Rattle.std.proofs.lemmas.List.{length-append}
use Rattle.cedr_base.specs.declared.change.Message.{Message}
use Rattle.cedr_text.specs.declared.event_line.Shape.{Shape}
use Rattle.cedr_guard.specs.declared.refusal.TheConstants.{FILE_LIMIT}
use Rattle.cedr_guard.specs.Messages.{messages_in}
use Rattle.cedr_guard.specs.Sources.{judged}
use Rattle.cedr_source.specs.declared.fault.Unread.{Unread}
use Rattle.cedr_source.specs.declared.fault.Unread.TheVariants as unread
use Rattle.cedr_source.specs.declared.lines.SourceLines.{SourceLines}
use Rattle.cedr_source.specs.declared.read.Reading.{Reading}
use Rattle.cedr_source.specs.Reads.{ReadsByLine}
use Rattle.cedr_source.specs.Steps.{Waits}
use Rattle.cedr_source.specs.Whole.{CountsSource, AnswersAll, IsReadWhole, Answered, read_entries, HoldsRead, IsClosedByLine, TookAll, HasRead, ReadBlocks, Closes}

-- ---- a block was taken

-- a source that didn't end has no more bytes than it may have
pub not_closed : (reading : Reading) (shape : Shape) (bytes : List ℕ) → reading.lines.lines.finished ≡ false → TookAll (Ok tt) reading shape bytes → length bytes ≤ FILE_LIMIT
not_closed reading shape bytes unended took = either_within took.1 where
  either_within : Waits reading.lines shape bytes (messages_in (read_entries reading)) ⊎ IsClosedByLine reading shape bytes → length bytes ≤ FILE_LIMIT
  either_within (inl waits) = waits.within
  either_within (inr whole) = absurd (false≢true (sym unended ∙ whole.closed.ended))

-- so there is less room after each block
pub less_room : (old new : SourceLines) (shape : Shape) (bytes part : List ℕ) (before given : List (List Message)) → ReadsByLine old shape bytes before → ReadsByLine new shape (bytes ++ part) given
    → 0 < length part → length (bytes ++ part) ≤ FILE_LIMIT → new.room < old.room
less_room old new shape bytes part before given reads more some within = omega (arith, reads.reads.room, more.reads.room, some, within, length-append bytes part)

-- a block that is refused refuses the source, whatever may still come
pub refused_block : (fault : Unread) (reading : Reading) (shape : Shape) (bytes : List ℕ) → reading.lines.lines.finished ≡ false → TookAll (Err fault) reading shape bytes → HasRead (Err fault) shape bytes
refused_block (unread.Refused refusal) reading shape bytes unended took = λ more. took.fault more (λ ended. absurd (false≢true (sym unended ∙ ended)))
refused_block unread.Failed reading shape bytes unended took = tt
refused_block unread.OutOfMemory reading shape bytes unended took = tt

-- no read failed
pub none_failed : (T : Type 0) (fault : Unread) (reading : Reading) (shape : Shape) (bytes : List ℕ) (old new : ℕ) → TookAll (Err fault) reading shape bytes → new ≡ old → CountsSource {T = T} (Err fault) old new
none_failed T (unread.Refused refusal) reading shape bytes old new took same = same
none_failed T unread.Failed reading shape bytes old new took same = absurd took
none_failed T unread.OutOfMemory reading shape bytes old new took same = same

-- ---- the end

-- where no more bytes come, more of them aren't needed
pub all_taken : (reading : Reading) (shape : Shape) (bytes : List ℕ) → reading.lines.lines.finished ≡ true → TookAll (Ok tt) reading shape bytes → IsClosedByLine reading shape bytes
all_taken reading shape bytes ended took = either_whole took.1 where
  either_whole : Waits reading.lines shape bytes (messages_in (read_entries reading)) ⊎ IsClosedByLine reading shape bytes → IsClosedByLine reading shape bytes
  either_whole (inl waits) = absurd (false≢true (sym waits.goes_on ∙ ended))
  either_whole (inr whole) = whole

-- a refusal where no more bytes come
pub refused_end : (fault : Unread) (reading : Reading) (shape : Shape) (bytes : List ℕ) → TookAll (Err fault) reading shape bytes → Closes (Err fault) shape bytes
refused_end (unread.Refused refusal) reading shape bytes took = ap (λ all. (judged shape all).fault) (sym (append-nil bytes)) ∙ took.fault [] (λ ended. refl)
refused_end unread.Failed reading shape bytes took = took
refused_end unread.OutOfMemory reading shape bytes took = tt

-- ---- all bytes

-- nothing is left at the end
at_end : (left : Option (List ℕ)) (bytes : List ℕ) → IsAtEnd left → bytes ≡ bytes ++ unwrap_or left []
at_end None bytes end = sym (append-nil bytes)
at_end (Some rest) bytes end = sym (ap (λ more. bytes ++ more) end ∙ append-nil bytes)

-- the answer at the end is that for all bytes
ends_so : (answer : Result (List (List Message)) Unread) (shape : Shape) (bytes : List ℕ) → Closes answer shape bytes → AnswersAll answer shape bytes
ends_so (Ok entries) shape bytes closes = closes
ends_so (Err (unread.Refused refusal)) shape bytes closes = closes
ends_so (Err unread.Failed) shape bytes closes = tt
ends_so (Err unread.OutOfMemory) shape bytes closes = tt

-- and nothing is left then
read_whole : (answer : Result (List (List Message)) Unread) (left : Option (List ℕ)) → IsAtEnd left → IsReadWhole answer left
read_whole (Ok entries) left end = end
read_whole (Err fault) left end = tt

-- all blocks were read, and no more bytes come
pub closed_answer : (answer : Result (List (List Message)) Unread) (reading : Reading) (shape : Shape) (rest left : Option (List ℕ)) → ReadBlocks (Ok reading) shape rest left
    → ((shape' : Shape) (bytes : List ℕ) → HoldsRead reading shape' bytes → length bytes ≤ FILE_LIMIT → Closes answer shape' bytes) → Answered answer shape rest left
closed_answer answer reading shape rest left blocks closes =
    let ends = ends_so answer shape blocks.bytes (closes shape blocks.bytes blocks.read.0 blocks.read.1) in
    record {
      bytes = blocks.bytes;
      took = blocks.took;
      few = blocks.few;
      whole = read_whole answer left blocks.whole;
      answers = subst (AnswersAll answer shape) (at_end left blocks.bytes blocks.whole) ends;
    }

-- and then no read failed
pub closed_count : (answer : Result (List (List Message)) Unread) (reading : Reading) (shape : Shape) (rest left : Option (List ℕ)) (old new : ℕ) → ReadBlocks (Ok reading) shape rest left
    → ((shape' : Shape) (bytes : List ℕ) → HoldsRead reading shape' bytes → length bytes ≤ FILE_LIMIT → Closes answer shape' bytes) → new ≡ old → CountsSource answer old new
closed_count (Ok entries) reading shape rest left old new blocks closes same = same
closed_count (Err (unread.Refused refusal)) reading shape rest left old new blocks closes same = same
closed_count (Err unread.Failed) reading shape rest left old new blocks closes same = absurd (closes shape blocks.bytes blocks.read.0 blocks.read.1)
closed_count (Err unread.OutOfMemory) reading shape rest left old new blocks closes same = same

-- a block's fault is that of all bytes
fault_answers : (fault : Unread) (shape : Shape) (bytes more : List ℕ) → HasRead (Err fault) shape bytes → AnswersAll (Err fault) shape (bytes ++ more)
fault_answers (unread.Refused refusal) shape bytes more read = read more
fault_answers unread.Failed shape bytes more read = tt
fault_answers unread.OutOfMemory shape bytes more read = tt

-- some block had a fault
pub broken_answer : (answer : Result (List (List Message)) Unread) (fault : Unread) (shape : Shape) (rest left : Option (List ℕ)) → answer ≡ Err fault → ReadBlocks (Err fault) shape rest left → Answered answer shape rest left
broken_answer answer fault shape rest left is blocks =
    subst (λ a. Answered a shape rest left) (sym is) (record {
      bytes = blocks.bytes;
      took = blocks.took;
      few = blocks.few;
      whole = tt;
      answers = fault_answers fault shape blocks.bytes (unwrap_or left []) blocks.read;
    })

-- and its count is the answer's
pub broken_count : (T : Type 0) (answer : Result (List (List Message)) Unread) (fault : Unread) (old new : ℕ) → answer ≡ Err fault → CountsSource {T = T} (Err fault) old new → CountsSource answer old new
broken_count T answer (unread.Refused refusal) old new is counts = subst (λ a. CountsSource a old new) (sym is) counts
broken_count T answer unread.Failed old new is counts = subst (λ a. CountsSource a old new) (sym is) counts
broken_count T answer unread.OutOfMemory old new is counts = subst (λ a. CountsSource a old new) (sym is) counts

-- the answer for what was read is that for all bytes
pub answered_all : (answer : Result (List (List Message)) Unread) (shape : Shape) (rest left : Option (List ℕ)) → Answered answer shape rest left → IfSome rest (λ all. AnswersAll answer shape all)
answered_all answer shape None left answered = tt
answered_all answer shape (Some all) None answered = absurd answered.took
answered_all answer shape (Some all) (Some rest) answered = subst (AnswersAll answer shape) (sym answered.took) answered.answers
