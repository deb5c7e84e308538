-- What each answer says of a source.
use Rattle.std.proofs.Common.{◌≡◌, ◌≢◌, ℕ, ◌+◌, ◌-◌, ◌^◌, ◌<◌, ◌≤◌, List, [], ◌∷◌, ◌++◌, Bool, true, false, cond, length, take, min, None, Some, Result, Ok, Err, refl, ap, sym, ◌∙◌, subst, append_assoc, append-nil, arith}
use Rattle.std.specs.Prelude.{drop, nat_lt, OnOk}
use Rattle.std.proofs.lemmas.Bool.{ltb-true, ltb-false, le-ltb, false≢true}
use Rattle.std.proofs.lemmas.Bool.Decides.{nat_tests}
use Rattle.std.proofs.lemmas.List.{length-append, length-take, take_all}
use Rattle.cedr_base.specs.declared.change.Message.{Message}
use Rattle.cedr_base.specs.declared.change.Message.TheVariants as message
use Rattle.cedr_base.specs.Messages.{IsLegal}
use Rattle.cedr_base.specs.Bytes.{line_feed}
use Rattle.cedr_text.specs.Parts.{parts_of}
use Rattle.cedr_text.specs.Lines.{Fed, raw_lines, without_return, has_line_feed, NextIs, GivesLine, IsTooLong, GivesNone}
use Rattle.cedr_text.specs.declared.lines.LineStep.TheVariants as lines
use Rattle.cedr_text.specs.Reading.{reading}
use Rattle.cedr_text.specs.declared.lines.TheConstants.{LINE_LIMIT}
use Rattle.cedr_text.specs.declared.event_line.EventLine.{EventLine}
use Rattle.cedr_text.specs.declared.event_line.Shape.{Shape}
use Rattle.cedr_text.specs.declared.fault.LineFault.{LineFault}
use Rattle.cedr_text.specs.declared.fault.LineFault.TheVariants.{LineTooLong, TooLarge}
use Rattle.cedr_guard.specs.declared.fault.GuardFault.{GuardFault}
use Rattle.cedr_guard.specs.declared.fault.GuardFault.TheVariants as guard_fault
use Rattle.cedr_guard.specs.declared.refusal.Refusal.{Refusal}
use Rattle.cedr_guard.specs.declared.refusal.TheConstants.{FILE_LIMIT}
use Rattle.cedr_guard.specs.Messages.{line_messages, messages_behind}
use Rattle.cedr_guard.specs.Sources.{with_event, with_reading, line_reading, Judged, go_on, judged_behind, judged_lines, judged, whole_lines, unfinished_line, ending}
use Rattle.cedr_guard.specs.declared.guard.Guard.{Guard}
use Rattle.cedr_guard.specs.Judging.{fault_behind}
use Rattle.cedr_guard.specs.Standing as guard
use Rattle.cedr_guard.specs.Standing.{Guards}
use Rattle.cedr_guard.proofs.MessageLemmas.{accepted_messages, messages-more}
use Rattle.cedr_source.specs.declared.lines.SourceLines.{SourceLines}
use Rattle.cedr_source.specs.declared.step.SourceStep.{SourceStep}
use Rattle.cedr_source.specs.declared.step.SourceStep.TheVariants as step
use Rattle.cedr_source.specs.Reads.{MayStillCome, AreTaken, ReadsSource}
use Rattle.cedr_source.specs.Steps.{IsFrontOf, GivesFront, Waits, IsClosedSource, IsRefused, AnswersStep, refused_at, JudgesLine}
use Rattle.cedr_source.proofs.TakenLemmas.{take-more, parts_are, taken_parts, goes_on, no_feed_part, AreGood, lines_behind, whole-taken, unfinished-taken, some_part, Stands, front_behind, holds_behind, line_refused, part_refused, long_reading, long_part, large_part, good_grows, messages-append, few_lines}

-- what was read stands for the lines that were taken
stands : (source : SourceLines) (shape : Shape) (bytes : List ℕ) (given : List Message) (reads : ReadsSource source shape bytes given) → Stands source.lines shape bytes reads.taken reads.good
stands source shape bytes given reads = record { taken_are = reads.taken_are; accepted = reads.accepted; ended = reads.ended }

-- ---- what was given is a front

-- the messages of accepted lines are a front of those of the good lines
front_given : (shape : Shape) (count : ℕ) (good : List EventLine) (given : List Message) (lines : List (List ℕ)) → given ≡ messages_behind [] good → IsFrontOf given (messages_behind [] (judged_behind shape count good lines).good)
front_given shape count good given lines is =
    let more = good_grows shape count good lines in
    record {
      rest = messages_behind good more.0;
      begins = ap (λ ms. ms ++ messages_behind good more.0) is ∙ (sym (messages-append [] good more.0) ∙ ap (messages_behind []) (sym more.1));
    }

-- the law of what was given
pub gives_front : (source : SourceLines) (shape : Shape) (bytes : List ℕ) (given : List Message) → ReadsSource source shape bytes given → GivesFront source shape bytes given
gives_front source shape bytes given reads =
    let count = length reads.taken in
    record {
      front = λ more may. holds_behind (λ (file : Judged). IsFrontOf given (messages_behind [] file.good)) source.lines shape bytes more reads.taken reads.good (stands source shape bytes given reads) may
          (λ short. front_given shape count reads.good given (raw_lines (source.lines.kept ++ more)) reads.messages)
          (λ unended. front_given shape count reads.good given (whole_lines (parts_of line_feed (source.lines.kept ++ take (FILE_LIMIT - length bytes) more))) reads.messages);
      legal = subst IsLegal (sym reads.messages) (accepted_messages reads.good reads.guards.accepted).legal;
    }

-- ---- a line is taken

-- the next line was taken: what else is there is as before
pub record Takes (old new : SourceLines) (line : List ℕ) : Type 0 where
  pub gives : GivesLine old.lines new.lines line
  pub finished : new.lines.finished ≡ old.lines.finished
  pub shape : new.shape ≡ old.shape
  pub number : new.number ≡ min (old.number + 1) (2 ^ 64 - 1)
  pub room : new.room ≡ old.room
  pub over : new.over_limit ≡ old.over_limit

-- with the next line that was taken
one_more : (old new : Fed) (bytes raw : List ℕ) (taken : List (List ℕ)) → AreTaken old bytes taken → NextIs old raw (λ more. raw_lines (new.kept ++ more)) → new.finished ≡ old.finished
    → AreTaken new bytes (taken ++ raw ∷ [])
one_more old new bytes raw taken are next same =
    λ more may.
    let may_old = λ (ended : old.finished ≡ true). may (same ∙ ended) in
    are more may_old ∙ (ap (λ lines. taken ++ lines) (next more may_old) ∙ sym (append_assoc taken (raw ∷ []) (raw_lines (new.kept ++ more))))

-- where that is accepted
accepted_more : (shape : Shape) (taken : List (List ℕ)) (raw : List ℕ) (good now : List EventLine) → AreGood shape taken good → with_reading good (line_reading shape raw) ≡ Ok now → AreGood shape (taken ++ raw ∷ []) now
accepted_more shape taken raw good now all reads =
    lines_behind shape taken (raw ∷ []) good all
    ∙ ap (λ r. go_on (length taken + 1) good r (λ then. judged_behind shape (length taken + 1) then [])) reads

-- what a line that isn't too long says, without its carriage return
short_reading : (shape : Shape) (good : List EventLine) (raw line : List ℕ) → length raw ≤ LINE_LIMIT → line ≡ without_return raw → with_reading good (line_reading shape raw) ≡ with_reading good (reading shape line)
short_reading shape good raw line short is =
    ap (with_reading good) (ap (λ test. cond test (Err LineTooLong) (reading shape (without_return raw))) (le-ltb LINE_LIMIT (length raw) short) ∙ ap (reading shape) (sym is))

-- lines of the first bytes are few
taken_few : (fed : Fed) (bytes : List ℕ) (taken : List (List ℕ)) → AreTaken fed (take FILE_LIMIT bytes) taken → length taken ≤ FILE_LIMIT + 1
taken_few fed bytes taken are =
    omega (arith, few_lines (take FILE_LIMIT bytes ++ []), ap length (are [] (λ ended. refl)), length-append taken (raw_lines (fed.kept ++ [])), length-append {A = ℕ} (take FILE_LIMIT bytes) [], length-take FILE_LIMIT bytes)

-- the number of the next line doesn't reach its last value
next_number : (number now count : ℕ) → now ≡ min (number + 1) (2 ^ 64 - 1) → number ≡ count + 1 → count ≤ FILE_LIMIT + 1 → now ≡ count + 1 + 1
next_number number now count is was few = omega arith

-- lists that are the same behind the same front
pub same_behind : (front xs ys : List Message) → front ++ xs ≡ front ++ ys → xs ≡ ys
same_behind [] xs ys same = same
same_behind (m ∷ front) xs ys same = same_behind front xs ys (ap (λ (ms : List Message). drop 1 ms) same)

-- how a line was judged after the lines that a guard stands for, which appended to some messages
abbrev pub Judges : Result (Unit {0}) GuardFault → SourceLines → SourceLines → List ℕ → List Message → List Message → Type 0
Judges judged old new line before after = (lines : List EventLine) → Guards old.guard lines → JudgesLine judged new.guard lines (with_reading lines (reading old.shape line)) before after

-- an accepted line was taken, and its messages given
pub accepted_line : (old new : SourceLines) (line : List ℕ) (before after added : List Message) (shape : Shape) (bytes : List ℕ) (given : List Message) → Takes old new line
    → Judges (Ok tt) old new line before after → after ≡ before ++ added → ReadsSource old shape bytes given → ReadsSource new shape bytes (given ++ added)
accepted_line old new line before after added shape bytes given takes judges is reads =
    let judged = judges reads.good reads.guards in
    let raw = takes.gives.raw in
    let says = ap (λ s. with_reading reads.good (reading s line)) (sym reads.same_shape) ∙ judged.1 in
    record {
      same_shape = takes.shape ∙ reads.same_shape;
      taken = reads.taken ++ raw ∷ [];
      taken_are = one_more old.lines new.lines (take FILE_LIMIT bytes) raw reads.taken reads.taken_are takes.gives.next takes.finished;
      number = next_number old.number new.number (length reads.taken) takes.number reads.number (taken_few old.lines bytes reads.taken reads.taken_are)
          ∙ ap (λ n. n + 1) (sym (length-append reads.taken (raw ∷ [])));
      good = judged.0;
      accepted = accepted_more shape reads.taken raw reads.good judged.0 reads.accepted (short_reading shape reads.good raw line takes.gives.short takes.gives.text ∙ says);
      guards = judged.2;
      messages = ap (λ ms. ms ++ added) reads.messages ∙ sym (judged.5 ∙ ap (λ ms. messages_behind [] reads.good ++ ms) (same_behind before judged.3 added (sym judged.4 ∙ is)));
      room = takes.room ∙ reads.room;
      over = takes.over ∙ reads.over;
      ended = λ ended. reads.ended (sym takes.finished ∙ ended);
    }

-- with the lines that the guard stands for then
pub accepted_good : (old new : SourceLines) (line : List ℕ) (before after added : List Message) (shape : Shape) (bytes : List ℕ) (given : List Message) (takes : Takes old new line)
    (judges : Judges (Ok tt) old new line before after) (is : after ≡ before ++ added) (reads : ReadsSource old shape bytes given) → (accepted_line old new line before after added shape bytes given takes judges is reads).good ≡ (judges reads.good reads.guards).0
unfolding accepted_line
accepted_good old new line before after added shape bytes given takes judges is reads = refl

-- ---- a source is refused

-- how all bytes are judged says of what they are refused
is_refused : (source : SourceLines) (shape : Shape) (bytes : List ℕ) (given : List Message) (good : List EventLine) (refusal : Refusal) → given ≡ messages_behind [] good
    → ((more : List ℕ) → MayStillCome source.lines more → judged shape (bytes ++ more) ≡ record { good = good; fault = Some refusal }) → IsRefused source shape bytes given refusal
is_refused source shape bytes given good refusal all is =
    record {
      fault = λ more may. ap (λ (file : Judged). file.fault) (is more may);
      all = λ more may. all ∙ ap (λ (file : Judged). messages_behind [] file.good) (sym (is more may));
    }

-- the parts whose first one was found to be the next line
next_part : (old new : Fed) (raw more : List ℕ) → NextIs old raw (λ more. raw_lines (new.kept ++ more)) → old.finished ≡ false → parts_of line_feed (old.kept ++ more) ≡ raw ∷ parts_of line_feed (new.kept ++ more)
next_part old new raw more next unended =
    parts_are (old.kept ++ more)
    ∙ (ap raw_lines (append_assoc old.kept more (line_feed ∷ []))
    ∙ (next (more ++ line_feed ∷ []) (goes_on old (more ++ line_feed ∷ []) unended)
    ∙ ap (λ lines. raw ∷ lines) (ap raw_lines (sym (append_assoc new.kept more (line_feed ∷ []))) ∙ sym (parts_are (new.kept ++ more)))))

-- a source over the limit whose first part after the taken ones has a fault, and isn't the last
first_part_refused : (shape : Shape) (count : ℕ) (good : List EventLine) (line : List ℕ) (parts : List (List ℕ)) (fault : LineFault) → parts ≢ [] → with_reading good (line_reading shape line) ≡ Err fault
    → front_behind shape count good (line ∷ parts) ≡ record { good = good; fault = Some (record { line = count + 1; fault = fault }) }
first_part_refused shape count good line [] fault some reads = absurd (some refl)
first_part_refused shape count good line (next ∷ parts) fault some reads = part_refused shape count good line next parts fault reads

-- a line that was taken has a fault
pub refused_line : (old new : SourceLines) (line : List ℕ) (fault : LineFault) (before after : List Message) (shape : Shape) (bytes : List ℕ) (given : List Message) → Takes old new line
    → Judges (Err (guard_fault.Line fault)) old new line before after → ReadsSource old shape bytes given → IsRefused new shape bytes given (record { line = old.number; fault = fault })
refused_line old new line fault before after shape bytes given takes judges reads =
    let count = length reads.taken in
    let raw = takes.gives.raw in
    let says = short_reading shape reads.good raw line takes.gives.short takes.gives.text ∙ (ap (λ s. with_reading reads.good (reading s line)) (sym reads.same_shape) ∙ judges reads.good reads.guards) in
    subst (λ n. IsRefused new shape bytes given (record { line = n; fault = fault })) (sym reads.number)
    (is_refused new shape bytes given reads.good (record { line = count + 1; fault = fault }) reads.messages
    (λ more may.
    let may_old = λ (ended : old.lines.finished ≡ true). may (takes.finished ∙ ended) in
    let first = take (FILE_LIMIT - length bytes) more in
    holds_behind (λ file. file ≡ record { good = reads.good; fault = Some (record { line = count + 1; fault = fault }) }) old.lines shape bytes more reads.taken reads.good (stands old shape bytes given reads) may_old
    (λ short. ap (judged_behind shape count reads.good) (takes.gives.next more may_old) ∙ line_refused shape count reads.good raw (raw_lines (new.lines.kept ++ more)) fault says)
    (λ unended. ap (front_behind shape count reads.good) (next_part old.lines new.lines raw first takes.gives.next unended)
    ∙ first_part_refused shape count reads.good raw (parts_of line_feed (new.lines.kept ++ first)) fault (some_part (new.lines.kept ++ first)) says)))

-- the next line is too long
refused_long : (source : SourceLines) (shape : Shape) (bytes : List ℕ) (given : List Message) → IsTooLong source.lines → ReadsSource source shape bytes given
    → IsRefused source shape bytes given (record { line = source.number; fault = LineTooLong })
refused_long source shape bytes given long reads =
    let count = length reads.taken in
    subst (λ n. IsRefused source shape bytes given (record { line = n; fault = LineTooLong })) (sym reads.number)
    (is_refused source shape bytes given reads.good (record { line = count + 1; fault = LineTooLong }) reads.messages
    (λ more may.
    let first = take (FILE_LIMIT - length bytes) more in
    holds_behind (λ file. file ≡ record { good = reads.good; fault = Some (record { line = count + 1; fault = LineTooLong }) }) source.lines shape bytes more reads.taken reads.good (stands source shape bytes given reads) may
    (λ short.
    let next = long more may in
    ap (judged_behind shape count reads.good) next.3 ∙ line_refused shape count reads.good next.0 next.1 LineTooLong (long_reading shape reads.good next.0 next.2))
    (λ unended.
    let next = long (first ++ line_feed ∷ []) (goes_on source.lines (first ++ line_feed ∷ []) unended) in
    let parts = parts_are (source.lines.kept ++ first) ∙ (ap raw_lines (append_assoc source.lines.kept first (line_feed ∷ [])) ∙ next.3) in
    ap (front_behind shape count reads.good) parts ∙ long_part shape count reads.good next.0 next.1 next.2)))

-- ---- no line ends any more

-- the line that isn't finished is the one part
no_feed : (bytes : List ℕ) → has_line_feed bytes ≡ false → parts_of line_feed (bytes ++ []) ≡ bytes ∷ []
no_feed bytes none = ap (parts_of line_feed) (append-nil bytes) ∙ no_feed_part bytes none

-- after more bytes than a source may have, no byte counts
none_fit : (count : ℕ) (more : List ℕ) → FILE_LIMIT < count → take (FILE_LIMIT - count) more ≡ []
none_fit count more long = let none : FILE_LIMIT - count ≡ 0 = omega arith in ap (λ k. take k more) none

-- more came than a source may have, and the line that isn't finished isn't too long
refused_large : (source : SourceLines) (shape : Shape) (bytes : List ℕ) (given : List Message) → source.lines.finished ≡ false → has_line_feed source.lines.kept ≡ false → length source.lines.kept ≤ LINE_LIMIT
    → source.over_limit ≡ true → ReadsSource source shape bytes given → IsRefused source shape bytes given (record { line = source.number; fault = TooLarge })
refused_large source shape bytes given unended none short over reads =
    let count = length reads.taken in
    let long = ltb-true FILE_LIMIT (length bytes) (sym reads.over ∙ over) in
    subst (λ n. IsRefused source shape bytes given (record { line = n; fault = TooLarge })) (sym reads.number)
    (is_refused source shape bytes given reads.good (record { line = count + 1; fault = TooLarge }) reads.messages
    (λ more may. holds_behind (λ file. file ≡ record { good = reads.good; fault = Some (record { line = count + 1; fault = TooLarge }) }) source.lines shape bytes more reads.taken reads.good (stands source shape bytes given reads) may
    (λ within. absurd (omega (arith, within, long, length-append bytes more)))
    (λ unended.
    ap (λ first. front_behind shape count reads.good (parts_of line_feed (source.lines.kept ++ first))) (none_fit (length bytes) more long)
    ∙ (ap (front_behind shape count reads.good) (no_feed source.lines.kept none)
    ∙ large_part shape count reads.good source.lines.kept short))))

-- all lines that ended were taken
waits : (source : SourceLines) (shape : Shape) (bytes : List ℕ) (given : List Message) → source.lines.finished ≡ false → has_line_feed source.lines.kept ≡ false → length source.lines.kept ≤ LINE_LIMIT
    → source.over_limit ≡ false → ReadsSource source shape bytes given → Waits source shape bytes given
waits source shape bytes given unended none few within reads =
    let short = ltb-false FILE_LIMIT (length bytes) (sym reads.over ∙ within) in
    let front : take FILE_LIMIT bytes ++ [] ≡ bytes = append-nil (take FILE_LIMIT bytes) ∙ take_all FILE_LIMIT bytes short in
    let parts : parts_of line_feed bytes ≡ reads.taken ++ source.lines.kept ∷ [] =
    ap (parts_of line_feed) (sym front) ∙ (taken_parts source.lines (take FILE_LIMIT bytes) reads.taken reads.taken_are unended [] ∙ ap (λ rest. reads.taken ++ rest) (no_feed source.lines.kept none)) in
    let some : ◌≡◌ {A = List (List ℕ)} (source.lines.kept ∷ []) [] → ⊥ = λ same. cc in
    let whole : whole_lines (parts_of line_feed bytes) ≡ reads.taken = ap whole_lines parts ∙ (whole-taken reads.taken (source.lines.kept ∷ []) some ∙ append-nil reads.taken) in
    let judged : judged_lines shape (whole_lines (parts_of line_feed bytes)) ≡ record { good = reads.good; fault = None } = ap (judged_lines shape) whole ∙ reads.accepted in
    record {
      goes_on = unended;
      within = short;
      none_left = ap whole_lines (no_feed_part source.lines.kept none);
      short = subst (λ line. length line ≤ LINE_LIMIT) (sym (ap unfinished_line parts ∙ unfinished-taken reads.taken (source.lines.kept ∷ []) some)) few;
      faultless = ap (λ (file : Judged). file.fault) judged;
      all = reads.messages ∙ ap (λ (file : Judged). messages_behind [] file.good) (sym judged);
    }

-- no byte is left at the end, so all lines were accepted
pub all_accepted : (source : SourceLines) (shape : Shape) (bytes : List ℕ) (given : List Message) → source.lines.finished ≡ true → source.lines.kept ≡ [] → (reads : ReadsSource source shape bytes given) → judged shape bytes ≡ record { good = reads.good; fault = None }
all_accepted source shape bytes given ended nothing reads =
    let count = length reads.taken in
    let file : judged shape (bytes ++ []) ≡ record { good = reads.good; fault = None } =
    holds_behind (λ file. file ≡ record { good = reads.good; fault = None }) source.lines shape bytes [] reads.taken reads.good (stands source shape bytes given reads) (λ end. refl)
    (λ short. ap (λ kept. judged_behind shape count reads.good (raw_lines (kept ++ []))) nothing)
    (λ unended. absurd (false≢true (sym unended ∙ ended))) in
    ap (judged shape) (sym (append-nil bytes)) ∙ file

-- and their messages were given
is_closed : (source : SourceLines) (shape : Shape) (bytes : List ℕ) (given : List Message) → source.lines.finished ≡ true → source.lines.kept ≡ [] → ReadsSource source shape bytes given → IsClosedSource source shape bytes given
is_closed source shape bytes given ended nothing reads =
    let all = all_accepted source shape bytes given ended nothing reads in
    record {
      ended = ended;
      faultless = ap (λ (file : Judged). file.fault) all;
      all = ap (λ ms. ms ++ message.End ∷ []) reads.messages ∙ ap (λ (file : Judged). messages_behind [] file.good ++ ending file.fault) (sym all);
    }

-- ---- the answer for a line

-- it has one line less
pub line_falls : (old new : Fed) (line : List ℕ) → GivesLine old new line → length (raw_lines new.kept) < length (raw_lines old.kept)
line_falls old new line gives =
    omega (arith, ap length (gives.next [] (λ ended. refl)), ap (λ kept. length (raw_lines kept)) (append-nil old.kept), ap (λ kept. length (raw_lines kept)) (append-nil new.kept))

-- ---- no bytes, more bytes

-- nothing was fed
pub none_read : (source : SourceLines) (shape : Shape) → source.lines ≡ record { kept = []; finished = false } → Guards source.guard [] → source.shape ≡ shape → source.number ≡ 1 → source.room ≡ FILE_LIMIT → source.over_limit ≡ false
    → ReadsSource source shape [] []
none_read source shape lines guards same number room over =
    record {
      same_shape = same;
      taken = [];
      taken_are = λ more may. ap (λ (fed : Fed). raw_lines (fed.kept ++ more)) (sym lines);
      number = number;
      good = [];
      accepted = refl;
      guards = guards;
      messages = refl;
      room = room;
      over = over;
      ended = λ ended. absurd (false≢true (sym (ap (λ (fed : Fed). fed.finished) lines) ∙ ended));
    }

-- and no line was accepted
pub none_good : (source : SourceLines) (shape : Shape) (lines : source.lines ≡ record { kept = []; finished = false }) (guards : Guards source.guard []) (same : source.shape ≡ shape) (number : source.number ≡ 1) (room : source.room ≡ FILE_LIMIT) (over : source.over_limit ≡ false)
    → (none_read source shape lines guards same number room over).good ≡ []
unfolding none_read
none_good source shape lines guards same number room over = refl

-- a piece was fed: the bytes that are missing to the limit were kept
pub record Feeds (old new : SourceLines) (piece : List ℕ) : Type 0 where
  pub unended : old.lines.finished ≡ false
  pub lines : new.lines ≡ record { kept = old.lines.kept ++ take (min (length piece) old.room) piece; finished = false }
  pub guard : new.guard ≡ old.guard
  pub shape : new.shape ≡ old.shape
  pub number : new.number ≡ old.number
  pub room : new.room ≡ old.room - length piece
  pub over : new.over_limit ≡ cond (nat_lt old.room (length piece)) true old.over_limit

-- more bytes came than fit, or had come
over_more : (limit bytes piece all : ℕ) → all ≡ bytes + piece → cond (nat_lt (limit - bytes) piece) true (nat_lt limit bytes) ≡ nat_lt limit all
over_more limit bytes piece all is = grind (arith, nat_tests)

-- as many bytes are kept as fit
take_least : (less : Bool) (room : ℕ) (piece : List ℕ) → nat_lt room (length piece) ≡ less → take (min (length piece) room) piece ≡ take room piece
take_least true room piece is = let least : min (length piece) room ≡ room = omega (arith, ltb-true room (length piece) is) in ap (λ n. take n piece) least
take_least false room piece is =
    let all = ltb-false room (length piece) is in
    take_all (min (length piece) room) piece (omega arith) ∙ sym (take_all room piece all)

-- a piece was fed
pub more_read : (old new : SourceLines) (piece : List ℕ) (shape : Shape) (bytes : List ℕ) (given : List Message) → Feeds old new piece → ReadsSource old shape bytes given → ReadsSource new shape (bytes ++ piece) given
more_read old new piece shape bytes given feeds reads =
    let part = take (FILE_LIMIT - length bytes) piece in
    let kept : new.lines.kept ≡ old.lines.kept ++ part = ap (λ (fed : Fed). fed.kept) feeds.lines ∙ ap (λ front. old.lines.kept ++ front) (take_least (nat_lt old.room (length piece)) old.room piece refl ∙ ap (λ n. take n piece) reads.room) in
    record {
      same_shape = feeds.shape ∙ reads.same_shape;
      taken = reads.taken;
      taken_are = λ more may.
          ap (λ front. raw_lines (front ++ more)) (take-more FILE_LIMIT bytes piece)
          ∙ (ap raw_lines (append_assoc (take FILE_LIMIT bytes) part more)
          ∙ (reads.taken_are (part ++ more) (goes_on old.lines (part ++ more) feeds.unended)
          ∙ ap (λ lines. reads.taken ++ raw_lines lines) (sym (append_assoc old.lines.kept part more) ∙ ap (λ front. front ++ more) (sym kept))));
      number = feeds.number ∙ reads.number;
      good = reads.good;
      accepted = reads.accepted;
      guards = subst (λ guard. Guards guard reads.good) (sym feeds.guard) reads.guards;
      messages = reads.messages;
      room = omega (arith, feeds.room, reads.room, length-append bytes piece);
      over = feeds.over
          ∙ (ap (λ over. cond (nat_lt old.room (length piece)) true over) reads.over
          ∙ (ap (λ n. cond (nat_lt n (length piece)) true (nat_lt FILE_LIMIT (length bytes))) reads.room
          ∙ over_more FILE_LIMIT (length bytes) (length piece) (length (bytes ++ piece)) (length-append bytes piece)));
      ended = λ ended. absurd (false≢true (sym (ap (λ (fed : Fed). fed.finished) feeds.lines) ∙ ended));
    }

-- and the accepted lines are the same
pub more_good : (old new : SourceLines) (piece : List ℕ) (shape : Shape) (bytes : List ℕ) (given : List Message) (feeds : Feeds old new piece) (reads : ReadsSource old shape bytes given) → (more_read old new piece shape bytes given feeds reads).good ≡ reads.good
unfolding more_read
more_good old new piece shape bytes given feeds reads = refl

-- ---- a line after accepted ones

-- a guard's answer for an event is that for its line
pub event_judged : (result : Result (Unit {0}) GuardFault) (old new : Guard) (event : EventLine) (out out' : List Message)
    → ((before : List EventLine) → Guards old before → guard.Judges result (fault_behind before event))
    → OnOk result ((before : List EventLine) → Guards old before → out' ≡ out ++ line_messages before event)
    → OnOk result ((before : List EventLine) → Guards old before → Guards new (before ++ event ∷ []))
    → (before : List EventLine) → Guards old before → JudgesLine result new before (with_event before event (fault_behind before event)) out out'
event_judged (Ok done) old new event out out' judged says stands before guards =
    (before ++ event ∷ [], ap (with_event before event) (judged before guards), stands before guards, line_messages before event, says before guards, messages-more before event)
event_judged (Err (guard_fault.Line fault)) old new event out out' judged says stands before guards = ap (with_event before event) (judged before guards)
event_judged (Err guard_fault.OutOfMemory) old new event out out' judged says stands before guards = tt

-- ---- no line was taken

-- all is as before, but for the line that was taken last
pub record Stays (old new : SourceLines) : Type 0 where
  pub lines : new.lines ≡ old.lines
  pub guard : new.guard ≡ old.guard
  pub shape : new.shape ≡ old.shape
  pub number : new.number ≡ old.number
  pub room : new.room ≡ old.room
  pub over : new.over_limit ≡ old.over_limit

-- where no line was taken, the same was read
pub still_reads : (old new : SourceLines) (shape : Shape) (bytes : List ℕ) (given : List Message) → Stays old new → ReadsSource old shape bytes given → ReadsSource new shape bytes given
still_reads old new shape bytes given stays reads =
    record {
      same_shape = stays.shape ∙ reads.same_shape;
      taken = reads.taken;
      taken_are = subst (λ fed. AreTaken fed (take FILE_LIMIT bytes) reads.taken) (sym stays.lines) reads.taken_are;
      number = stays.number ∙ reads.number;
      good = reads.good;
      accepted = reads.accepted;
      guards = subst (λ guard. Guards guard reads.good) (sym stays.guard) reads.guards;
      messages = reads.messages;
      room = stays.room ∙ reads.room;
      over = stays.over ∙ reads.over;
      ended = λ ended. reads.ended (ap (λ (fed : Fed). fed.finished) (sym stays.lines) ∙ ended);
    }

-- and the accepted lines are the same
pub still_good : (old new : SourceLines) (shape : Shape) (bytes : List ℕ) (given : List Message) (stays : Stays old new) (reads : ReadsSource old shape bytes given) → (still_reads old new shape bytes given stays reads).good ≡ reads.good
unfolding still_reads
still_good old new shape bytes given stays reads = refl

-- the answer is that the next line is too long
pub long_told : (old new : SourceLines) (said : SourceStep) → said ≡ refused_at old.number LineTooLong → Stays old new → IsTooLong old.lines
    → (shape : Shape) (bytes : List ℕ) (given : List Message) → ReadsSource old shape bytes given → AnswersStep said new shape bytes given []
long_told old new said is stays long shape bytes given reads =
    subst (λ t. AnswersStep t new shape bytes given []) (sym (is ∙ ap (λ n. refused_at n LineTooLong) (sym stays.number)))
    (refused_long new shape bytes given (subst IsTooLong (sym stays.lines) long) (still_reads old new shape bytes given stays reads))

-- the answer is that the source is too large
pub large_told : (old new : SourceLines) (said : SourceStep) → said ≡ refused_at old.number TooLarge → Stays old new → GivesNone lines.NotYet old.lines → old.over_limit ≡ true
    → (shape : Shape) (bytes : List ℕ) (given : List Message) → ReadsSource old shape bytes given → AnswersStep said new shape bytes given []
large_told old new said is stays none over shape bytes given reads =
    let still = subst (GivesNone lines.NotYet) (sym stays.lines) none in
    subst (λ t. AnswersStep t new shape bytes given []) (sym (is ∙ ap (λ n. refused_at n TooLarge) (sym stays.number)))
    (refused_large new shape bytes given still.0 still.1 still.2 (stays.over ∙ over) (still_reads old new shape bytes given stays reads))

-- more bytes are asked for
pub waiting_told : (old new : SourceLines) → Stays old new → GivesNone lines.NotYet old.lines → old.over_limit ≡ false
    → (shape : Shape) (bytes : List ℕ) (given : List Message) → ReadsSource old shape bytes given → AnswersStep step.NotYet new shape bytes given []
waiting_told old new stays none over shape bytes given reads =
    let still = subst (GivesNone lines.NotYet) (sym stays.lines) none in
    let reads_on = still_reads old new shape bytes given stays reads in
    (reads_on, waits new shape bytes given still.0 still.1 still.2 (stays.over ∙ over) reads_on)

-- the answer is that the source is closed
pub closed_told : (old new : SourceLines) → Stays old new → GivesNone lines.Finished old.lines
    → (shape : Shape) (bytes : List ℕ) (given : List Message) → ReadsSource old shape bytes given → AnswersStep step.Closed new shape bytes given []
closed_told old new stays none shape bytes given reads =
    let still = subst (GivesNone lines.Finished) (sym stays.lines) none in
    let reads_on = still_reads old new shape bytes given stays reads in
    (reads_on, is_closed new shape bytes given still.0 still.1 reads_on)
