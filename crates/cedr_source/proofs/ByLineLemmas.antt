-- What was given of a source line by line.
use Rattle.std.proofs.Common.{◌≡◌, ℕ, ◌<◌, List, [], ◌∷◌, ◌++◌, Bool, true, false, cond, length, Option, None, Some, Result, Ok, Err, refl, ap, sym, ◌∙◌, subst, append_assoc, append-nil, arith}
use Rattle.std.specs.Prelude.{map, nat_lt, IfOk, OnErr}
use Rattle.std.proofs.lemmas.Bool.{false≢true, ltb-false}
use Rattle.cedr_base.specs.declared.memory.OutOfMemory.{OutOfMemory}
use Rattle.cedr_base.specs.declared.change.Message.{Message}
use Rattle.cedr_base.specs.declared.change.Message.TheVariants as message
use Rattle.cedr_text.specs.Lines.{Fed, raw_lines, GivesNone}
use Rattle.cedr_text.specs.declared.lines.LineStep.TheVariants as lines
use Rattle.cedr_text.specs.declared.lines.TheConstants.{LINE_LIMIT}
use Rattle.cedr_text.specs.Quoting.{line_fields}
use Rattle.cedr_text.specs.Reading.{reading, as_some, breaks_form, event_from}
use Rattle.cedr_text.specs.declared.event_line.EventLine.{EventLine}
use Rattle.cedr_text.specs.declared.event_line.Shape.{Shape}
use Rattle.cedr_text.specs.declared.fault.LineFault.{LineFault}
use Rattle.cedr_text.specs.declared.fault.LineFault.TheVariants.{LineTooLong, BadForm}
use Rattle.cedr_guard.specs.declared.fault.GuardFault.{GuardFault}
use Rattle.cedr_guard.specs.declared.fault.GuardFault.TheVariants as guard_fault
use Rattle.cedr_guard.specs.declared.guard.Guard.{Guard}
use Rattle.cedr_guard.specs.declared.refusal.TheConstants.{FILE_LIMIT}
use Rattle.cedr_guard.specs.Judging.{fault_behind}
use Rattle.cedr_guard.specs.Messages.{line_messages, messages_behind, entries_behind, messages_in, Appended}
use Rattle.cedr_guard.specs.Sources.{with_event, with_reading, Judged, ending}
use Rattle.cedr_guard.specs.Standing.{Guards}
use Rattle.cedr_guard.proofs.LineMessages.{held_append}
use Rattle.cedr_guard.proofs.MessageLemmas.{messages-more}
use Rattle.cedr_source.specs.declared.lines.SourceLines.{SourceLines}
use Rattle.cedr_source.specs.declared.step.SourceStep.{SourceStep}
use Rattle.cedr_source.specs.declared.step.SourceStep.TheVariants as step
use Rattle.cedr_source.specs.Reads.{lines_left, ReadsSource, ReadsByLine}
use Rattle.cedr_source.specs.Steps.{AnswersStep, AnswersEntry, TakesLine, LineAnswered, AnswersLine, line_entry, refused_at}
use Rattle.cedr_source.proofs.ReadsLemmas.{Takes, Judges, Feeds, Stays, same_behind, gives_front, accepted_line, accepted_good, refused_line, all_accepted, more_read, more_good, none_read, none_good, still_reads, still_good}

-- ---- the entry of one line

ok_is : {A E : Type 0} {x y : A} → ◌≡◌ {A = Result A E} (Ok x) (Ok y) → x ≡ y
ok_is same = cc

-- one line more has one entry more
one_entry : (front lines : List EventLine) (event : EventLine) → entries_behind front (lines ++ event ∷ []) ≡ entries_behind front lines ++ line_messages (front ++ lines) event ∷ []
one_entry front [] event = ap (λ (before : List EventLine). line_messages before event ∷ []) (sym (append-nil front))
one_entry front (line ∷ lines) event =
    ap (λ (rest : List (List Message)). line_messages front line ∷ rest) (one_entry (front ++ line ∷ []) lines event
    ∙ ap (λ (before : List EventLine). entries_behind (front ++ line ∷ []) lines ++ line_messages before event ∷ []) (append_assoc front (line ∷ []) lines))

event_is : (before lines : List EventLine) (event : EventLine) (fault : Option LineFault) → with_event before event fault ≡ Ok lines → before ++ event ∷ [] ≡ lines
event_is before lines event None is = ok_is is
event_is before lines event (Some fault) is = cc

-- a line that says an event has its messages as its entry
event_entry : (before lines : List EventLine) (added : List Message) (read : Result (Option EventLine) LineFault) → (read ≡ Ok None → ⊥) → with_reading before read ≡ Ok lines → messages_behind [] lines ≡ messages_behind [] before ++ added
    → entries_behind [] lines ≡ entries_behind [] before ++ added ∷ []
event_entry before lines added (Err fault) some is gave = cc
event_entry before lines added (Ok None) some is gave = absurd (some refl)
event_entry before lines added (Ok (Some event)) some is gave =
    let more = event_is before lines event (fault_behind before event) is in
    let own : added ≡ line_messages before event = same_behind (messages_behind [] before) added (line_messages before event) (sym gave ∙ (ap (messages_behind []) (sym more) ∙ messages-more before event)) in
    ap (entries_behind []) (sym more) ∙ (one_entry [] before event ∙ ap (λ (e : List Message). entries_behind [] before ++ e ∷ []) (sym own))

says_some : (long broken : Bool) (said : Result EventLine LineFault) → cond long (Err LineTooLong) (cond broken (Err BadForm) (as_some said)) ≡ Ok None → ⊥
says_some true broken said is = cc
says_some false true said is = cc
says_some false false (Ok event) is = cc
says_some false false (Err fault) is = cc

-- the entry of a line, which holds what it gave
record HasEntry (before lines : List EventLine) (line : List ℕ) (added : List Message) : Type 0 where
  entries : entries_behind [] lines ≡ entries_behind [] before ++ line_entry line added
  held : messages_in (line_entry line added) ≡ added

has_entry : (before lines : List EventLine) (shape : Shape) (line : List ℕ) (added : List Message) → with_reading before (reading shape line) ≡ Ok lines → messages_behind [] lines ≡ messages_behind [] before ++ added → HasEntry before lines line added
has_entry before lines shape [] added is gave =
    let same : before ≡ lines = ok_is is in
    record {
      entries = ap (entries_behind []) (sym same) ∙ sym (append-nil (entries_behind [] before));
      held = sym (same_behind (messages_behind [] before) added [] (sym gave ∙ (ap (messages_behind []) (sym same) ∙ sym (append-nil (messages_behind [] before)))));
    }
has_entry before lines shape (b ∷ bytes) added is gave = record {
  entries = event_entry before lines added (reading shape (b ∷ bytes)) (says_some (nat_lt LINE_LIMIT (length (b ∷ bytes))) (breaks_form (b ∷ bytes)) (event_from shape (line_fields (b ∷ bytes)))) is gave;
  held = append-nil added;
}

-- ---- a line that was taken

-- the same that was read, where the same was given
abbrev pub reads_as : (source : SourceLines) (shape : Shape) (bytes : List ℕ) (given other : List Message) → other ≡ given → ReadsSource source shape bytes given → ReadsSource source shape bytes other
reads_as source shape bytes given other same reads = record {
  same_shape = reads.same_shape;
  taken = reads.taken;
  taken_are = reads.taken_are;
  number = reads.number;
  good = reads.good;
  accepted = reads.accepted;
  guards = reads.guards;
  messages = same ∙ reads.messages;
  room = reads.room;
  over = reads.over;
  ended = reads.ended;
}

-- what the answer for an accepted line says of its messages and its entry
record Gives (new : SourceLines) (shape : Shape) (bytes : List ℕ) (given : List (List Message)) (line : List ℕ) (added : List Message) : Type 0 where
  reads : ReadsByLine new shape bytes (given ++ line_entry line added)
  held : messages_in (line_entry line added) ≡ added

entry_given : (old new : SourceLines) (line : List ℕ) (before after added : List Message) (shape : Shape) (bytes : List ℕ) (given : List (List Message)) → Takes old new line → Judges (Ok tt) old new line before after → after ≡ before ++ added
    → ReadsByLine old shape bytes given → Gives new shape bytes given line added
entry_given old new line before after added shape bytes given takes judges is h =
    let j = judges h.reads.good h.reads.guards in
    let gave = j.5 ∙ ap (λ (ms : List Message). messages_behind [] h.reads.good ++ ms) (same_behind before j.3 added (sym j.4 ∙ is)) in
    let own = has_entry h.reads.good j.0 old.shape line added j.1 gave in
    let entry = line_entry line added in
    record {
      reads = record {
        reads = reads_as new shape bytes (messages_in given ++ added) (messages_in (given ++ entry)) (held_append given entry ∙ ap (λ (ms : List Message). messages_in given ++ ms) own.held)
            (accepted_line old new line before after added shape bytes (messages_in given) takes judges is h.reads);
        lines = ap (λ (es : List (List Message)). es ++ entry) h.lines ∙ (sym own.entries ∙ ap (entries_behind []) (sym (accepted_good old new line before after added shape bytes (messages_in given) takes judges is h.reads)));
      };
      held = own.held;
    }

-- nothing was appended
abbrev none_appended : (before after : List Message) → after ≡ before → Appended before after
none_appended before after same = record { added = []; all = same ∙ sym (append-nil before); few = omega arith }

-- what the answer for a line says
pub line_answered : (old new : SourceLines) (line : List ℕ) (judged : Result (Unit {0}) GuardFault) (answer : Result SourceStep OutOfMemory) (before after : List Message) → Takes old new line → new.line.items ≡ line
    → Judges judged old new line before after → AnswersLine old.number judged answer → Appended before after → OnErr judged (after ≡ before) → lines_left new < lines_left old
    → IfOk answer (λ said. LineAnswered said old new before after)
line_answered old new line (Ok done) answer before after takes own judges is appended kept less =
    subst (λ a. IfOk a (λ said. LineAnswered said old new before after)) (sym is)
    (record {
      appended = appended;
      takes = less;
      says = λ shape bytes given reads.
          let now = accepted_line old new line before after appended.added shape bytes given takes judges appended.all reads in
          (now, (gives_front new shape bytes (given ++ appended.added) now).legal);
      by_line = λ shape bytes given h.
          let now = entry_given old new line before after appended.added shape bytes given takes judges appended.all h in
          subst (λ (l : List ℕ). ReadsByLine new shape bytes (given ++ line_entry l appended.added) × (messages_in (line_entry l appended.added) ≡ appended.added)) (sym own) (now.reads, now.held);
    })
line_answered old new line (Err (guard_fault.Line fault)) answer before after takes own judges is appended kept less =
    subst (λ a. IfOk a (λ said. LineAnswered said old new before after)) (sym is)
    (record {
      appended = none_appended before after kept;
      takes = refl;
      says = λ shape bytes given reads. refused_line old new line fault before after shape bytes given takes judges reads;
      by_line = λ shape bytes given h. tt;
    })
line_answered old new line (Err guard_fault.OutOfMemory) (Ok said) before after takes own judges is appended kept less = absurd (false≢true is)
line_answered old new line (Err guard_fault.OutOfMemory) (Err lack) before after takes own judges is appended kept less = tt

-- ---- no line was taken

-- the same was given line by line
pub still_by_line : (old new : SourceLines) → Stays old new → (shape : Shape) (bytes : List ℕ) (given : List (List Message)) → ReadsByLine old shape bytes given → ReadsByLine new shape bytes given
still_by_line old new stays shape bytes given h = record { reads = still_reads old new shape bytes (messages_in given) stays h.reads; lines = h.lines ∙ ap (entries_behind []) (sym (still_good old new shape bytes (messages_in given) stays h.reads)) }

-- no line was taken, and what is said of the source says nothing of entries
pub nothing_answered : (old new : SourceLines) (said : SourceStep) (before after : List Message) → after ≡ before → TakesLine said (lines_left old) (lines_left new) []
    → ((shape : Shape) (bytes : List ℕ) (given : List Message) → ReadsSource old shape bytes given → AnswersStep said new shape bytes given [])
    → ((shape : Shape) (bytes : List ℕ) (given : List (List Message)) → ReadsByLine old shape bytes given → AnswersEntry said new shape bytes given [])
    → LineAnswered said old new before after
nothing_answered old new said before after same takes says by_line = record { appended = none_appended before after same; takes = takes; says = says; by_line = by_line }

-- a refusal says nothing of entries, and takes none
pub refused_answered : (old new : SourceLines) (said : SourceStep) (number : ℕ) (fault : LineFault) (before after : List Message) → said ≡ refused_at number fault → after ≡ before
    → ((shape : Shape) (bytes : List ℕ) (given : List Message) → ReadsSource old shape bytes given → AnswersStep said new shape bytes given []) → LineAnswered said old new before after
refused_answered old new said number fault before after is same says =
    nothing_answered old new said before after same (subst (λ (s : SourceStep). TakesLine s (lines_left old) (lines_left new) []) (sym is) refl) says
    (λ shape bytes given h. subst (λ (s : SourceStep). AnswersEntry s new shape bytes given []) (sym is) tt)

-- the source is closed
pub closed_by_line : (old new : SourceLines) → Stays old new → GivesNone lines.Finished old.lines → (shape : Shape) (bytes : List ℕ) (given : List (List Message)) → ReadsByLine old shape bytes given → AnswersEntry step.Closed new shape bytes given []
closed_by_line old new stays none shape bytes given h =
    let still = subst (GivesNone lines.Finished) (sym stays.lines) none in
    let now = still_by_line old new stays shape bytes given h in
    let all = all_accepted new shape bytes (messages_in given) still.0 still.1 now.reads in (
      now,
      ap (λ (es : List (List Message)). es ++ (message.End ∷ []) ∷ []) now.lines ∙ ap (λ (file : Judged). entries_behind [] file.good ++ map (λ (m : Message). m ∷ []) (ending file.fault)) (sym all),
    )

-- ---- no bytes, more bytes

-- nothing was fed
pub none_by_line : (source : SourceLines) (shape : Shape) → source.lines ≡ record { kept = []; finished = false } → Guards source.guard [] → source.shape ≡ shape → source.number ≡ 1 → source.room ≡ FILE_LIMIT → source.over_limit ≡ false
    → ReadsByLine source shape [] []
none_by_line source shape lines guards same number room over = record { reads = none_read source shape lines guards same number room over; lines = ap (entries_behind []) (sym (none_good source shape lines guards same number room over)) }

-- a piece was fed
pub more_by_line : (old new : SourceLines) (piece : List ℕ) (shape : Shape) (bytes : List ℕ) (given : List (List Message)) → Feeds old new piece → ReadsByLine old shape bytes given → ReadsByLine new shape (bytes ++ piece) given
more_by_line old new piece shape bytes given feeds h = record { reads = more_read old new piece shape bytes (messages_in given) feeds h.reads; lines = h.lines ∙ ap (entries_behind []) (sym (more_good old new piece shape bytes (messages_in given) feeds h.reads)) }

-- no more bytes come
pub ended_by_line : (old new : SourceLines) → new.lines ≡ record { kept = old.lines.kept; finished = true } → new.guard ≡ old.guard → new.shape ≡ old.shape → new.number ≡ old.number → new.room ≡ old.room → new.over_limit ≡ old.over_limit → old.over_limit ≡ false
    → (shape : Shape) (bytes : List ℕ) (given : List (List Message)) → ReadsByLine old shape bytes given → ReadsByLine new shape bytes given
ended_by_line old new lines guard same number room over within shape bytes given h =
    let reads = h.reads in
    record {
      reads = record {
        same_shape = same ∙ reads.same_shape;
        taken = reads.taken;
        taken_are = λ more may.
            let none : more ≡ [] = may (ap (λ (fed : Fed). fed.finished) lines) in
            reads.taken_are more (λ ended. none) ∙ ap (λ (fed : Fed). reads.taken ++ raw_lines (fed.kept ++ more)) (sym lines);
        number = number ∙ reads.number;
        good = reads.good;
        accepted = reads.accepted;
        guards = subst (λ (g : Guard). Guards g reads.good) (sym guard) reads.guards;
        messages = reads.messages;
        room = room ∙ reads.room;
        over = over ∙ reads.over;
        ended = λ ended. ltb-false FILE_LIMIT (length bytes) (sym reads.over ∙ within);
      };
      lines = h.lines;
    }
