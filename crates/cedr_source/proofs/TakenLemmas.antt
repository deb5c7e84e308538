-- The lines that were taken of a source, and how all of its lines are judged after them.
use Rattle.std.proofs.Common.{◌≡◌, ◌≢◌, ℕ, zero, suc, ◌+◌, ◌-◌, ◌<◌, ◌≤◌, ◌==◌, List, [], ◌∷◌, ◌++◌, Bool, true, false, cond, length, take, Option, None, Some, Result, Ok, Err, refl, ap, sym, ◌∙◌, subst, append_assoc, append-nil, arith}
use Rattle.std.specs.Prelude.{nat_lt}
use Rattle.std.specs.List.{onto_first}
use Rattle.std.proofs.lemmas.Bool.{ltb-true, ltb-false, lt-ltb, le-ltb, false≢true, or_parts}
use Rattle.std.proofs.lemmas.List.{length-append, take_all}
use Rattle.std.proofs.lemmas.List.Splits.{length-slice_split}
use Rattle.std.proofs.lemmas.List.Sums.{count_by-le-length}
use Rattle.cedr_base.specs.Bytes.{line_feed}
use Rattle.cedr_text.specs.Parts.{parts_of}
use Rattle.cedr_text.specs.Lines.{Fed, without_empty_end, raw_lines, has_line_feed, without_return}
use Rattle.cedr_text.specs.Reading.{reading}
use Rattle.cedr_text.specs.declared.lines.TheConstants.{LINE_LIMIT}
use Rattle.cedr_text.specs.declared.event_line.EventLine.{EventLine}
use Rattle.cedr_text.specs.declared.event_line.Shape.{Shape}
use Rattle.cedr_text.specs.declared.fault.LineFault.{LineFault}
use Rattle.cedr_text.specs.declared.fault.LineFault.TheVariants.{LineTooLong, TooLarge}
use Rattle.cedr_guard.specs.declared.refusal.Refusal.{Refusal}
use Rattle.cedr_guard.specs.declared.refusal.TheConstants.{FILE_LIMIT}
use Rattle.cedr_guard.specs.Judging.{fault_behind}
use Rattle.cedr_guard.specs.Messages.{line_messages, messages_behind}
use Rattle.cedr_guard.specs.Sources.{with_event, with_reading, line_reading, Judged, go_on, judged_behind, judged_lines, judged_front, whole_lines, unfinished_line, first_refusal, limit_fault, judged}
use Rattle.cedr_source.specs.Reads.{MayStillCome, AreTaken}
use Rattle.cedr_text.proofs.LineLemmas.{end_dropped, kept_front}

-- ---- the parts between line feeds are the lines of the bytes with a line feed more

-- a byte in front of parts leaves some part
onto_some : (b : ℕ) (parts : List (List ℕ)) → onto_first b parts ≢ []
onto_some b [] none = cc
onto_some b (part ∷ parts) none = cc

-- so does a byte that may be cut at
cut_some : (cut : Bool) (b : ℕ) (parts : List (List ℕ)) → cond cut ([] ∷ parts) (onto_first b parts) ≢ []
cut_some true b parts none = cc
cut_some false b parts none = onto_some b parts none

-- there is always a part
pub some_part : (bytes : List ℕ) → parts_of line_feed bytes ≢ []
some_part [] none = cc
some_part (b ∷ bytes) none = cut_some (b == line_feed) b (parts_of line_feed bytes) none

-- a byte in front of parts stands in front of these with an empty end, too
onto-end : (cut : Bool) (b : ℕ) (parts : List (List ℕ)) → parts ≢ [] → cond cut ([] ∷ (parts ++ [] ∷ [])) (onto_first b (parts ++ [] ∷ [])) ≡ cond cut ([] ∷ parts) (onto_first b parts) ++ [] ∷ []
onto-end true b parts some = refl
onto-end false b [] some = absurd (some refl)
onto-end false b (part ∷ parts) some = refl

-- a line feed more makes an empty part more
parts-end : (bytes : List ℕ) → parts_of line_feed (bytes ++ line_feed ∷ []) ≡ parts_of line_feed bytes ++ [] ∷ []
parts-end [] = refl
parts-end (b ∷ bytes) =
    ap (λ parts. cond (b == line_feed) ([] ∷ parts) (onto_first b parts)) (parts-end bytes)
    ∙ onto-end (b == line_feed) b (parts_of line_feed bytes) (some_part bytes)

-- so the parts are the lines of the bytes with a line feed more
pub parts_are : (bytes : List ℕ) → parts_of line_feed bytes ≡ raw_lines (bytes ++ line_feed ∷ [])
parts_are bytes = sym (ap without_empty_end (parts-end bytes) ∙ end_dropped (parts_of line_feed bytes))

-- no end was said
pub goes_on : (fed : Fed) (more : List ℕ) → fed.finished ≡ false → MayStillCome fed more
goes_on fed more unended = λ ended. absurd (false≢true (sym unended ∙ ended))

-- the same lines were taken off the parts
pub taken_parts : (fed : Fed) (bytes : List ℕ) (taken : List (List ℕ)) → AreTaken fed bytes taken → fed.finished ≡ false → (more : List ℕ)
    → parts_of line_feed (bytes ++ more) ≡ taken ++ parts_of line_feed (fed.kept ++ more)
taken_parts fed bytes taken are unended more =
    parts_are (bytes ++ more)
    ∙ (ap raw_lines (append_assoc bytes more (line_feed ∷ []))
    ∙ (are (more ++ line_feed ∷ []) (goes_on fed (more ++ line_feed ∷ []) unended)
    ∙ ap (λ lines. taken ++ lines) (ap raw_lines (sym (append_assoc fed.kept more (line_feed ∷ []))) ∙ sym (parts_are (fed.kept ++ more)))))

-- a byte that isn't cut at joins the one part
no_cut : (cut : Bool) (b : ℕ) (bytes : List ℕ) → cut ≡ false → cond cut ([] ∷ bytes ∷ []) (onto_first b (bytes ∷ [])) ≡ (b ∷ bytes) ∷ []
no_cut true b bytes none = cc
no_cut false b bytes none = refl

-- bytes without a line feed are one part
pub no_feed_part : (bytes : List ℕ) → has_line_feed bytes ≡ false → parts_of line_feed bytes ≡ bytes ∷ []
no_feed_part [] none = refl
no_feed_part (b ∷ bytes) none =
    let parts = or_parts (b == line_feed) (has_line_feed bytes) none in
    ap (λ rest. cond (b == line_feed) ([] ∷ rest) (onto_first b rest)) (no_feed_part bytes parts.1) ∙ no_cut (b == line_feed) b bytes parts.0

-- ---- lines after accepted ones

-- a fault is there or not
some_fault : (before good : List EventLine) (refusal : Refusal) → ◌≡◌ {A = Judged} (record { good = before; fault = Some refusal }) (record { good = good; fault = None }) → ⊥
some_fault before good refusal same = let fault = ap (λ (file : Judged). file.fault) same in cc

-- after one line, where it is known what comes after it
go_behind : (shape : Shape) (count : ℕ) (before good : List EventLine) (read : Result (List EventLine) LineFault) (taken lines : List (List ℕ))
    → ((now : List EventLine) → judged_behind shape (count + 1) now taken ≡ record { good = good; fault = None } → judged_behind shape (count + 1) now (taken ++ lines) ≡ judged_behind shape ((count + 1) + length taken) good lines)
    → go_on (count + 1) before read (λ now. judged_behind shape (count + 1) now taken) ≡ record { good = good; fault = None }
    → go_on (count + 1) before read (λ now. judged_behind shape (count + 1) now (taken ++ lines)) ≡ judged_behind shape ((count + 1) + length taken) good lines
go_behind shape count before good (Ok now) taken lines more all = more now all
go_behind shape count before good (Err fault) taken lines more all = absurd (some_fault before good (record { line = count + 1; fault = fault }) all)

-- lines after accepted ones are judged as if they came first, but for the count and what was accepted
taken_behind : (shape : Shape) (count : ℕ) (before good : List EventLine) (taken lines : List (List ℕ)) → judged_behind shape count before taken ≡ record { good = good; fault = None }
    → judged_behind shape count before (taken ++ lines) ≡ judged_behind shape (count + length taken) good lines
taken_behind shape count before good [] lines all =
    ap (λ n. judged_behind shape n before lines) (omega arith) ∙ ap (λ now. judged_behind shape (count + 0) now lines) (ap (λ (file : Judged). file.good) all)
taken_behind shape count before good (line ∷ taken) lines all =
    go_behind shape count before good (with_reading before (line_reading shape line)) taken lines (λ now rest. taken_behind shape (count + 1) now good taken lines rest) all
    ∙ ap (λ n. judged_behind shape n good lines) (omega arith)

-- these lines were taken and accepted
abbrev pub AreGood : Shape → List (List ℕ) → List EventLine → Type 0
AreGood shape taken good = judged_lines shape taken ≡ record { good = good; fault = None }

-- the same of the first lines
pub lines_behind : (shape : Shape) (taken lines : List (List ℕ)) (good : List EventLine) → AreGood shape taken good → judged_lines shape (taken ++ lines) ≡ judged_behind shape (length taken) good lines
lines_behind shape taken lines good all = taken_behind shape 0 [] good taken lines all ∙ ap (λ n. judged_behind shape n good lines) (omega arith)

-- ---- the parts of a source over the limit after accepted lines

-- lines that parts follow are whole, and after them come the whole lines of the parts
pub whole-taken : (taken parts : List (List ℕ)) → parts ≢ [] → whole_lines (taken ++ parts) ≡ taken ++ whole_lines parts
whole-taken [] parts some = refl
whole-taken (line ∷ []) [] some = absurd (some refl)
whole-taken (line ∷ []) (part ∷ parts) some = refl
whole-taken (line ∷ next ∷ taken) parts some = ap (λ rest. line ∷ rest) (whole-taken (next ∷ taken) parts some)

-- and the line that isn't finished is theirs
pub unfinished-taken : (taken parts : List (List ℕ)) → parts ≢ [] → unfinished_line (taken ++ parts) ≡ unfinished_line parts
unfinished-taken [] parts some = refl
unfinished-taken (line ∷ []) [] some = absurd (some refl)
unfinished-taken (line ∷ []) (part ∷ parts) some = refl
unfinished-taken (line ∷ next ∷ taken) parts some = unfinished-taken (next ∷ taken) parts some

-- lines that were judged, and then the line that follows them: its fault counts where they have none
abbrev pub with_limit : Judged → ℕ → List ℕ → Judged
with_limit file number line = record { good = file.good; fault = Some (first_refusal file.fault (record { line = number; fault = limit_fault line })) }

-- the parts of a source over the limit, after accepted lines: its whole lines are judged after those,
-- and then the line that follows them
abbrev pub front_behind : Shape → ℕ → List EventLine → List (List ℕ) → Judged
front_behind shape count good parts = with_limit (judged_behind shape count good (whole_lines parts)) (count + length (whole_lines parts) + 1) (unfinished_line parts)

-- so a source over the limit is judged, after its accepted lines
parts_behind : (shape : Shape) (taken parts : List (List ℕ)) (good : List EventLine) → AreGood shape taken good → parts ≢ [] → judged_front shape (taken ++ parts) ≡ front_behind shape (length taken) good parts
parts_behind shape taken parts good all some =
    let whole = whole-taken taken parts some in
    ap (λ lines. with_limit (judged_lines shape lines) (length lines + 1) (unfinished_line (taken ++ parts))) whole
    ∙ (ap (λ file. with_limit file (length (taken ++ whole_lines parts) + 1) (unfinished_line (taken ++ parts))) (lines_behind shape taken (whole_lines parts) good all)
    ∙ (ap (λ n. with_limit (judged_behind shape (length taken) good (whole_lines parts)) n (unfinished_line (taken ++ parts))) (omega (arith, length-append taken (whole_lines parts)))
    ∙ ap (λ line. with_limit (judged_behind shape (length taken) good (whole_lines parts)) (length taken + length (whole_lines parts) + 1) line) (unfinished-taken taken parts some)))

-- ---- all bytes

-- a source up to the limit
pub judged_within : (shape : Shape) (bytes : List ℕ) → length bytes ≤ FILE_LIMIT → judged shape bytes ≡ judged_lines shape (raw_lines bytes)
judged_within shape bytes short = ap (λ long. cond long (judged_front shape (parts_of line_feed (take FILE_LIMIT bytes))) (judged_lines shape (raw_lines bytes))) (le-ltb FILE_LIMIT (length bytes) short)

-- a source over it
judged_beyond : (shape : Shape) (bytes : List ℕ) → FILE_LIMIT < length bytes → judged shape bytes ≡ judged_front shape (parts_of line_feed (take FILE_LIMIT bytes))
judged_beyond shape bytes long = ap (λ over. cond over (judged_front shape (parts_of line_feed (take FILE_LIMIT bytes))) (judged_lines shape (raw_lines bytes))) (lt-ltb FILE_LIMIT (length bytes) long)

-- the first bytes of a text that goes on
pub take-more : (n : ℕ) (bytes more : List ℕ) → take n (bytes ++ more) ≡ take n bytes ++ take (n - length bytes) more
take-more zero bytes more = let none : 0 ≡ 0 - length bytes = omega arith in ap (λ k. take k more) none
take-more (suc n) [] more = let all : suc n ≡ suc n - 0 = omega arith in ap (λ k. take k more) all
take-more (suc n) (b ∷ bytes) more = ap (λ rest. b ∷ rest) (take-more n bytes more ∙ ap (λ k. take n bytes ++ take k more) (omega arith))

-- how all bytes are judged after the lines that were taken of the first ones
pub record Stands (fed : Fed) (shape : Shape) (bytes : List ℕ) (taken : List (List ℕ)) (good : List EventLine) : Type 0 where
  pub taken_are : AreTaken fed (take FILE_LIMIT bytes) taken
  pub accepted : AreGood shape taken good
  pub ended : fed.finished ≡ true → length bytes ≤ FILE_LIMIT

-- up to the limit the lines after the taken ones decide
within_behind : (fed : Fed) (shape : Shape) (bytes more : List ℕ) (taken : List (List ℕ)) (good : List EventLine) → Stands fed shape bytes taken good → MayStillCome fed more → length (bytes ++ more) ≤ FILE_LIMIT
    → judged shape (bytes ++ more) ≡ judged_behind shape (length taken) good (raw_lines (fed.kept ++ more))
within_behind fed shape bytes more taken good stands may short =
    let all = take_all FILE_LIMIT bytes (omega (arith, length-append bytes more)) in
    judged_within shape (bytes ++ more) short
    ∙ (ap (λ front. judged_lines shape (raw_lines (front ++ more))) (sym all)
    ∙ (ap (judged_lines shape) (stands.taken_are more may)
    ∙ lines_behind shape taken (raw_lines (fed.kept ++ more)) good stands.accepted))

-- over it the parts of the first bytes after them do
beyond_behind : (fed : Fed) (shape : Shape) (bytes more : List ℕ) (taken : List (List ℕ)) (good : List EventLine) → Stands fed shape bytes taken good → fed.finished ≡ false → FILE_LIMIT < length (bytes ++ more)
    → judged shape (bytes ++ more) ≡ front_behind shape (length taken) good (parts_of line_feed (fed.kept ++ take (FILE_LIMIT - length bytes) more))
beyond_behind fed shape bytes more taken good stands unended long =
    let rest = take (FILE_LIMIT - length bytes) more in
    judged_beyond shape (bytes ++ more) long
    ∙ (ap (λ front. judged_front shape (parts_of line_feed front)) (take-more FILE_LIMIT bytes more)
    ∙ (ap (judged_front shape) (taken_parts fed (take FILE_LIMIT bytes) taken stands.taken_are unended rest)
    ∙ parts_behind shape taken (parts_of line_feed (fed.kept ++ rest)) good stands.accepted (some_part (fed.kept ++ rest))))

-- not over the limit at the end
open_beyond : (finished : Bool) (fed : Fed) (bytes more : List ℕ) → fed.finished ≡ finished → (fed.finished ≡ true → length bytes ≤ FILE_LIMIT) → MayStillCome fed more → FILE_LIMIT < length (bytes ++ more) → fed.finished ≡ false
open_beyond false fed bytes more is ended may long = is
open_beyond true fed bytes more is ended may long = absurd (omega (arith, ended is, long, length-append bytes more, ap length (may is)))

-- both, by whether the source is over the limit
by_length : (P : Judged → Type 0) (long : Bool) (fed : Fed) (shape : Shape) (bytes more : List ℕ) (taken : List (List ℕ)) (good : List EventLine) → nat_lt FILE_LIMIT (length (bytes ++ more)) ≡ long
    → Stands fed shape bytes taken good → MayStillCome fed more
    → (length (bytes ++ more) ≤ FILE_LIMIT → P (judged_behind shape (length taken) good (raw_lines (fed.kept ++ more))))
    → (fed.finished ≡ false → P (front_behind shape (length taken) good (parts_of line_feed (fed.kept ++ take (FILE_LIMIT - length bytes) more))))
    → P (judged shape (bytes ++ more))
by_length P false fed shape bytes more taken good is stands may within beyond =
    let short = ltb-false FILE_LIMIT (length (bytes ++ more)) is in
    subst P (sym (within_behind fed shape bytes more taken good stands may short)) (within short)
by_length P true fed shape bytes more taken good is stands may within beyond =
    let long = ltb-true FILE_LIMIT (length (bytes ++ more)) is in
    let unended = open_beyond fed.finished fed bytes more refl stands.ended may long in
    subst P (sym (beyond_behind fed shape bytes more taken good stands unended long)) (beyond unended)

-- what holds of the lines after the taken ones, within the limit and over it, holds of all bytes
pub holds_behind : (P : Judged → Type 0) (fed : Fed) (shape : Shape) (bytes more : List ℕ) (taken : List (List ℕ)) (good : List EventLine)
    → Stands fed shape bytes taken good → MayStillCome fed more
    → (length (bytes ++ more) ≤ FILE_LIMIT → P (judged_behind shape (length taken) good (raw_lines (fed.kept ++ more))))
    → (fed.finished ≡ false → P (front_behind shape (length taken) good (parts_of line_feed (fed.kept ++ take (FILE_LIMIT - length bytes) more))))
    → P (judged shape (bytes ++ more))
holds_behind P fed shape bytes more taken good stands may within beyond = by_length P (nat_lt FILE_LIMIT (length (bytes ++ more))) fed shape bytes more taken good refl stands may within beyond

-- ---- the first line after the taken ones

-- the line has this fault, and so the source
pub line_refused : (shape : Shape) (count : ℕ) (good : List EventLine) (line : List ℕ) (lines : List (List ℕ)) (fault : LineFault) → with_reading good (line_reading shape line) ≡ Err fault
    → judged_behind shape count good (line ∷ lines) ≡ record { good = good; fault = Some (record { line = count + 1; fault = fault }) }
line_refused shape count good line lines fault reads = ap (λ r. go_on (count + 1) good r (λ now. judged_behind shape (count + 1) now lines)) reads

-- and over the limit, where another part follows it
pub part_refused : (shape : Shape) (count : ℕ) (good : List EventLine) (line next : List ℕ) (parts : List (List ℕ)) (fault : LineFault) → with_reading good (line_reading shape line) ≡ Err fault
    → front_behind shape count good (line ∷ next ∷ parts) ≡ record { good = good; fault = Some (record { line = count + 1; fault = fault }) }
part_refused shape count good line next parts fault reads =
    ap (λ file. with_limit file (count + length (whole_lines (line ∷ next ∷ parts)) + 1) (unfinished_line (next ∷ parts))) (line_refused shape count good line (whole_lines (next ∷ parts)) fault reads)

-- a line that is too long has that fault
pub long_reading : (shape : Shape) (good : List EventLine) (line : List ℕ) → LINE_LIMIT < length line → with_reading good (line_reading shape line) ≡ Err LineTooLong
long_reading shape good line long = ap (with_reading good) (ap (λ test. cond test (Err LineTooLong) (reading shape (without_return line))) (lt-ltb LINE_LIMIT (length line) long))

-- a too long line of a source over the limit, finished or not
pub long_part : (shape : Shape) (count : ℕ) (good : List EventLine) (line : List ℕ) (parts : List (List ℕ)) → LINE_LIMIT < length line
    → front_behind shape count good (line ∷ parts) ≡ record { good = good; fault = Some (record { line = count + 1; fault = LineTooLong }) }
long_part shape count good line [] long =
    ap {B = Judged} (λ n. record { good = good; fault = Some (record { line = n; fault = limit_fault line }) }) (omega arith)
    ∙ ap {B = Judged} (λ test. record { good = good; fault = Some (record { line = count + 1; fault = cond test LineTooLong TooLarge }) }) (lt-ltb LINE_LIMIT (length line) long)
long_part shape count good line (next ∷ parts) long = part_refused shape count good line next parts LineTooLong (long_reading shape good line long)

-- a line that isn't too long and that a source over the limit doesn't finish
pub large_part : (shape : Shape) (count : ℕ) (good : List EventLine) (line : List ℕ) → length line ≤ LINE_LIMIT
    → front_behind shape count good (line ∷ []) ≡ record { good = good; fault = Some (record { line = count + 1; fault = TooLarge }) }
large_part shape count good line short =
    ap {B = Judged} (λ n. record { good = good; fault = Some (record { line = n; fault = limit_fault line }) }) (omega arith)
    ∙ ap {B = Judged} (λ test. record { good = good; fault = Some (record { line = count + 1; fault = cond test LineTooLong TooLarge }) }) (le-ltb LINE_LIMIT (length line) short)

-- ---- good lines are kept

-- equal answers have equal values
ok_same : {A E : Type 0} {x y : A} → ◌≡◌ {A = Result A E} (Ok x) (Ok y) → x ≡ y
ok_same same = cc

-- what is accepted grows after one line
go_grows : (number : ℕ) (before : List EventLine) (read : Result (List EventLine) LineFault) (rest : List EventLine → Judged)
    → ((now : List EventLine) → read ≡ Ok now → (more : List EventLine) × ((rest now).good ≡ before ++ more)) → (more : List EventLine) × ((go_on number before read rest).good ≡ before ++ more)
go_grows number before (Ok now) rest grows = grows now refl
go_grows number before (Err fault) rest grows = ([], sym (append-nil before))

-- by that line, where it is accepted
event_grows : (before : List EventLine) (event : EventLine) (fault : Option LineFault) (now : List EventLine) → with_event before event fault ≡ Ok now → (more : List EventLine) × (now ≡ before ++ more)
event_grows before event None now is = (event ∷ [], sym (ok_same is))
event_grows before event (Some fault) now is = cc

-- or by nothing, where it is empty
reading_grows : (before : List EventLine) (read : Result (Option EventLine) LineFault) (now : List EventLine) → with_reading before read ≡ Ok now → (more : List EventLine) × (now ≡ before ++ more)
reading_grows before (Err fault) now is = cc
reading_grows before (Ok None) now is = ([], sym (append-nil before ∙ ok_same is))
reading_grows before (Ok (Some event)) now is = event_grows before event (fault_behind before event) now is

-- accepted lines stay in front of those after them
pub good_grows : (shape : Shape) (count : ℕ) (before : List EventLine) (lines : List (List ℕ)) → (more : List EventLine) × ((judged_behind shape count before lines).good ≡ before ++ more)
good_grows shape count before [] = ([], sym (append-nil before))
good_grows shape count before (line ∷ lines) =
    go_grows (count + 1) before (with_reading before (line_reading shape line)) (λ now. judged_behind shape (count + 1) now lines)
    (λ now is.
    let first = reading_grows before (line_reading shape line) now is in
    let rest = good_grows shape (count + 1) now lines in
    (first.0 ++ rest.0, rest.1 ∙ (ap (λ front. front ++ rest.0) first.1 ∙ append_assoc before first.0 rest.0)))

-- the messages of lines in two parts
pub messages-append : (before lines others : List EventLine) → messages_behind before (lines ++ others) ≡ messages_behind before lines ++ messages_behind (before ++ lines) others
messages-append before [] others = ap (λ front. messages_behind front others) (sym (append-nil before))
messages-append before (line ∷ lines) others =
    ap (λ ms. line_messages before line ++ ms) (messages-append (before ++ line ∷ []) lines others
    ∙ ap (λ front. messages_behind (before ++ line ∷ []) lines ++ messages_behind front others) (append_assoc before (line ∷ []) lines))
    ∙ sym (append_assoc (line_messages before line) (messages_behind (before ++ line ∷ []) lines) (messages_behind (before ++ line ∷ lines) others))

-- ---- how many lines there are

-- dropping an empty end makes no more lines
without_fewer : (parts : List (List ℕ)) → length (without_empty_end parts) ≤ length parts
without_fewer [] = omega arith
without_fewer ([] ∷ []) = omega arith
without_fewer ((b ∷ bs) ∷ []) = omega arith
without_fewer (part ∷ next ∷ parts) = omega (arith, without_fewer (next ∷ parts), ap length (kept_front part next parts))

-- at most one more than there are bytes
pub few_lines : (bytes : List ℕ) → length (raw_lines bytes) ≤ length bytes + 1
few_lines bytes = omega (arith, without_fewer (parts_of line_feed bytes), length-slice_split (λ b. b == line_feed) bytes, count_by-le-length (λ b. b == line_feed) bytes)
