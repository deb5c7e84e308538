-- What the accepted lines of the sources say so far, and that those are accepted which a script comes to.
use Rattle.std.proofs.Common.{◌≡◌, ℕ, zero, suc, ◌+◌, List, [], ◌∷◌, Bool, true, false, cond, length, set, get_or, take, refl, ap, sym, subst, arith}
use Rattle.std.specs.Prelude.{map, nat_lt, Option, None, Some, Result, Ok, Err}
use Rattle.cedr_guard.specs.History.{history_of}
use Rattle.cedr_guard.specs.declared.refusal.TheConstants.{FILE_LIMIT}
use Rattle.cedr_guard.specs.Judging.{guarantee_of, AreAccepted}
use Rattle.cedr_guard.specs.Messages.{messages_behind}
use Rattle.cedr_guard.specs.Sources.{with_reading, whole_lines}
use Rattle.cedr_guard.proofs.MessageLemmas.{accepted_messages, table_is_history}
use Rattle.cedr_guard.proofs.SourceLemmas.{reading_accepted, Law, AreAcceptedNow}
use Rattle.node_laws.specs.Lists.{Lists, AreTables}
use Rattle.node_laws.proofs.Ends.{open_unbroken}
use Rattle.node_laws.proofs.Holds.{open_is}
use Rattle.cedr_plan.specs.declared.plan.PlanNode.{PlanNode}
use Rattle.cedr_plan.specs.Places.{is_source}
use Rattle.plan_runs.specs.Middle.{IsGoing, AllGoing, AreMarks}
use Rattle.plan_runs.specs.Runs.{sources_in}
use Rattle.cedr_text.specs.declared.event_line.EventLine.{EventLine}
use Rattle.cedr_text.specs.declared.event_line.Shape.{Shape}
use Rattle.cedr_text.specs.declared.event_line.Shape.TheVariants.{AnyText}
use Rattle.cedr_text.specs.declared.fault.LineFault.{LineFault}
use Rattle.cedr_text.specs.declared.fault.LineFault.TheVariants.{LineTooLong}
use Rattle.cedr_text.specs.declared.lines.TheConstants.{LINE_LIMIT}
use Rattle.cedr_text.specs.Lines.{raw_lines, without_return}
use Rattle.cedr_base.specs.Bytes.{line_feed}
use Rattle.cedr_text.specs.Parts.{parts_of}
use Rattle.cedr_text.specs.Reading.{reading}
use Rattle.plan_live.specs.Scripts.{Accepted, cut_at_comma, named_from, lines_at, no_lines, with_lines, with_event_line, with_named, with_cut, with_line, Played, asked, stopped, play_on, is_question, played_behind, front_after, played_after, played, messages_so_far}
use Rattle.plan_live.specs.SoFar.{AreLines, AllAreLines, source_lines}
use Rattle.plan_live.proofs.ShownLemmas.{messages_at}

-- ---- the sources

lines_where : (b : Bool) (l : List EventLine) (ls : Accepted) (xs : Lists) → xs ≡ messages_so_far ls → cond b (messages_behind [] l ∷ xs) xs ≡ messages_so_far (cond b (l ∷ ls) ls)
lines_where true l ls xs e = ap (λ (ms : Lists). messages_behind [] l ∷ ms) e
lines_where false l ls xs e = e

-- the sources gave the messages of their lines
pub sources_gave : (nodes : List PlanNode) (lines : Accepted) → sources_in nodes (messages_so_far lines) ≡ messages_so_far (source_lines nodes lines)
sources_gave [] lines = refl
sources_gave (n ∷ nodes) [] = lines_where (is_source n.kind) [] (source_lines nodes []) (sources_in nodes []) (sources_gave nodes [])
sources_gave (n ∷ nodes) (l ∷ lines) = lines_where (is_source n.kind) l (source_lines nodes lines) (sources_in nodes (messages_so_far lines)) (sources_gave nodes lines)

chosen_lines : (b : Bool) (l : List EventLine) (ls : Accepted) → AreAccepted l → AreLines ls → AreLines (cond b (l ∷ ls) ls)
chosen_lines true l ls one are zero = one
chosen_lines true l ls one are (suc k) = are k
chosen_lines false l ls one are k = are k

-- lines that are accepted at each place are so at each source
pub source_are : (nodes : List PlanNode) (lines : Accepted) → AreLines lines → AreLines (source_lines nodes lines)
source_are [] lines are k = tt
source_are (n ∷ nodes) [] are k = chosen_lines (is_source n.kind) [] (source_lines nodes []) tt (source_are nodes [] are) k
source_are (n ∷ nodes) (l ∷ lines) are k = chosen_lines (is_source n.kind) l (source_lines nodes lines) (are 0) (source_are nodes lines (λ j. are (suc j))) k

-- ---- messages that go on

going_lines : (lines : List EventLine) → AreAccepted lines → IsGoing (messages_behind [] lines)
going_lines lines accepted =
    let are = accepted_messages lines accepted in
    let ms = messages_behind [] lines in
    record { legal = are.legal; going = open_is ms are.all.goes_on; unbroken = open_unbroken ms are.all.goes_on }

-- their messages go on
pub all_go : (count : ℕ) (lines : Accepted) → AreLines lines → AllGoing count (messages_so_far lines)
all_go count lines are k within = subst IsGoing (sym (messages_at lines k)) (going_lines (lines_at lines k) (are k))

-- with their histories
pub tables_so_far : (lines : Accepted) → AreLines lines → AreTables (messages_so_far lines) (map history_of lines)
tables_so_far [] are = tt
tables_so_far (l ∷ lines) are = (table_is_history l (messages_behind [] l) (accepted_messages l (are 0)).all, tables_so_far lines (λ k. are (suc k)))

-- and their guarantees
pub marks_so_far : (count : ℕ) (lines : Accepted) → AreLines lines → AreMarks count (messages_so_far lines) (map guarantee_of lines)
marks_so_far count [] are k within = refl
marks_so_far count (l ∷ lines) are zero within = (accepted_messages l (are 0)).all.mark
marks_so_far count (l ∷ lines) are (suc k) within = marks_so_far count lines (λ j. are (suc j)) k (omega arith)

-- ---- the lines that a `?` follows

-- the lines are accepted, where there are any
abbrev pub AreLinesNow : Result Accepted LineFault → Type 0
AreLinesNow (Ok now) = AreLines now
AreLinesNow (Err fault) = Unit {0}

set_are : (before : Accepted) (place : ℕ) (now : List EventLine) → AreLines before → AreAccepted now → AreLines (set before place now)
set_are [] place now are one k = tt
set_are (l ∷ before) zero now are one zero = one
set_are (l ∷ before) zero now are one (suc k) = are (suc k)
set_are (l ∷ before) (suc place) now are one zero = are 0
set_are (l ∷ before) (suc place) now are one (suc k) = set_are before place now (λ j. are (suc j)) one k

lines_are : (before : Accepted) (place : ℕ) (now : Result (List EventLine) LineFault) → AreLines before → AreAcceptedNow now → AreLinesNow (with_lines before place now)
lines_are before place (Ok now) are one = set_are before place now are one
lines_are before place (Err fault) are one = tt

module _ (law : Law) (nodes : List PlanNode) (shapes : List Shape) where
  event_are : (before : Accepted) (place : ℕ) (bytes : List ℕ) → AreLines before → AreLinesNow (with_event_line shapes before place bytes)
  event_are before place [] are = tt
  event_are before place (b ∷ bytes) are =
      let shape = get_or shapes place AnyText in
      lines_are before place (with_reading (lines_at before place) (reading shape (b ∷ bytes))) are (reading_accepted (lines_at before place) (reading shape (b ∷ bytes)) (are place) (law shape (b ∷ bytes)))

  named_are : (before : Accepted) (place : Option ℕ) (bytes : List ℕ) → AreLines before → AreLinesNow (with_named shapes before place bytes)
  named_are before None bytes are = tt
  named_are before (Some place) bytes are = event_are before place bytes are

  cut_are : (before : Accepted) (cut : Option (List ℕ × List ℕ)) → AreLines before → AreLinesNow (with_cut nodes shapes before cut)
  cut_are before None are = tt
  cut_are before (Some cut) are = named_are before (named_from 0 nodes cut.0) cut.1 are

  -- with a line that is accepted they are accepted
  pub line_are : (before : Accepted) (line : List ℕ) → AreLines before → AreLinesNow (with_line nodes shapes before line)
  line_are before [] are = are
  line_are before (b ∷ bytes) are = cut_are before (cut_at_comma (b ∷ bytes)) are

  -- at each `?` they are, and so are those that are left at the end
  abbrev AreAll : Played → Type 0
  AreAll all = AllAreLines all.asks × AreLines all.lines

  step_are : (long question : Bool) (number : ℕ) (before : Accepted) (now : Result Accepted LineFault) (rest : Accepted → Played) → AreLines before → AreLinesNow now → ((lines : Accepted) → AreLines lines → AreAll (rest lines))
      → AreAll (cond long (stopped number before LineTooLong) (cond question (asked before (rest before)) (play_on number before now rest)))
  step_are true question number before now rest are next behind = (tt, are)
  step_are false true number before now rest are next behind = let r = behind before are in ((are, r.0), r.1)
  step_are false false number before (Ok now) rest are next behind = behind now next
  step_are false false number before (Err fault) rest are next behind = (tt, are)

  behind_are : (count : ℕ) (before : Accepted) (lines : List (List ℕ)) → AreLines before → AreAll (played_behind nodes shapes count before lines)
  behind_are count before [] are = (tt, are)
  behind_are count before (line ∷ lines) are =
      step_are (nat_lt LINE_LIMIT (length line)) (is_question (without_return line)) (count + 1) before (with_line nodes shapes before (without_return line)) (λ now. played_behind nodes shapes (count + 1) now lines) are
      (line_are before (without_return line) are) (λ now next. behind_are (count + 1) now lines next)

  either_are : (b : Bool) (one other : Played) → AreAll one → AreAll other → AreAll (cond b one other)
  either_are true one other h k = h
  either_are false one other h k = k

  -- after accepted lines all lines of a script are accepted that it comes to
  pub after_are : (before : Accepted) (bytes : List ℕ) → AreLines before → AllAreLines (played_after nodes shapes before bytes).asks × AreLines (played_after nodes shapes before bytes).lines
  after_are before bytes are =
      let parts = parts_of line_feed (take FILE_LIMIT bytes) in
      let whole = behind_are 0 before (whole_lines parts) are in
      either_are (nat_lt FILE_LIMIT (length bytes)) (front_after nodes shapes before parts) (played_behind nodes shapes 0 before (raw_lines bytes)) (whole.0, whole.1) (behind_are 0 before (raw_lines bytes) are)

-- at first there is none, at any place
pub none_are : (nodes : List PlanNode) → AreLines (no_lines nodes)
none_are [] k = tt
none_are (n ∷ nodes) zero = tt
none_are (n ∷ nodes) (suc k) = none_are nodes k

-- so it is with a script from its first line on
pub asked_lines : Law → (nodes : List PlanNode) (shapes : List Shape) (bytes : List ℕ) → AllAreLines (played nodes shapes bytes).asks
asked_lines law nodes shapes bytes = (after_are law nodes shapes (no_lines nodes) bytes (none_are nodes)).0
