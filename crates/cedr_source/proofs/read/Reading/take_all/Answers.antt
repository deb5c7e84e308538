use Rattle.std.proofs.Common.{◌++◌, ◌∷◌, [], inl, inr, List, length, refl, ap, sym, ◌∙◌, subst, arith}
use Rattle.std.proofs.lemmas.List.{length-append}
use Rattle.cedr_base.specs.declared.change.Message.{Message}
use Rattle.cedr_base.specs.declared.change.Message.TheVariants as message
use Rattle.cedr_guard.specs.Messages.{messages_in}
use Rattle.cedr_source.specs.declared.read.Reading.{Reading}
use Rattle.cedr_source.specs.declared.step.SourceStep.{SourceStep}
use Rattle.cedr_source.specs.Reads.{lines_left}
use Rattle.cedr_source.specs.Steps.{Waits, IsClosedSource, IsRefused, AnswersStep, AnswersEntry, TakesLine}
use Rattle.cedr_source.specs.Whole.{read_entries}
use Rattle.cedr_source.proofs.EntryLemmas.{empty_held, entry_held, same_entries, still_held}
use Rattle.cedr_source.proofs.read.Reading.take_all.Goals as goal

pub loop-self-preserved-then-was_empty : goal.loop-self-preserved-then-was_empty
loop-self-preserved-then-was_empty c = record {
  holds = λ shape bytes h.
      let old = c.loop-self.self in
      let held = c.loop-self.invariant.holds shape bytes h in
      let a = c.in_ok-take_line.ensures.answered in
      let new : Reading = record { lines = c.take_line.new.self; counts = old.counts; messages = c.take_line.new.out } in
      empty_held old new a.appended.added shape bytes held
      (subst (λ (s : SourceStep). AnswersEntry s c.take_line.new.self shape bytes (read_entries old) a.appended.added) c.in-Line.is (a.by_line shape bytes (read_entries old) held.reads))
      (sym c.was_empty.ensures ∙ c.if-was_empty.true) a.appended.all refl;
  finished = c.take_line.ensures.finished ∙ c.loop-self.invariant.finished;
}

pub loop-self-preserved : goal.loop-self-preserved
loop-self-preserved c = record {
  holds = λ shape bytes h.
      let old = c.loop-self.self in
      let held = c.loop-self.invariant.holds shape bytes h in
      let a = c.in_ok-take_line.ensures.answered in
      let new : Reading = record { lines = c.take_line.new.self; counts = c.push.new.self; messages = c.take_line.new.out } in
      entry_held old new a.appended.added _ shape bytes held
      (subst (λ (s : SourceStep). AnswersEntry s c.take_line.new.self shape bytes (read_entries old) a.appended.added) c.in-Line-2.is (a.by_line shape bytes (read_entries old) held.reads))
      (sym c.was_empty.ensures ∙ c.if-was_empty.false) a.appended.all c.in_ok-push-in-Line-2.ensures.items
      (omega (arith, c.len.ensures, c.len-before.ensures, c.take_line.new.out.ok.0, old.messages.ok.0, ap length a.appended.all, length-append old.messages.items a.appended.added));
  finished = c.take_line.ensures.finished ∙ c.loop-self.invariant.finished;
}

pub returns-in-NotYet-clause-took : goal.returns-in-NotYet-clause-took
returns-in-NotYet-clause-took c = λ shape bytes h.
    let old = c.loop-self.self in
    let held = c.loop-self.invariant.holds shape bytes h in
    let a = c.in_ok-take_line.ensures.answered in
    let new : Reading = record { lines = c.take_line.new.self; counts = old.counts; messages = c.take_line.new.out } in
    let none = subst (λ (s : SourceStep). TakesLine s (lines_left old.lines) (lines_left new.lines) a.appended.added) c.in-NotYet.is a.takes in
    let entry = subst (λ (s : SourceStep). AnswersEntry s c.take_line.new.self shape bytes (read_entries old) a.appended.added) c.in-NotYet.is (a.by_line shape bytes (read_entries old) held.reads) in
    let said = subst (λ (s : SourceStep). AnswersStep s c.take_line.new.self shape bytes (messages_in (read_entries old)) a.appended.added) c.in-NotYet.is (a.says shape bytes (messages_in (read_entries old)) held.reads.reads) in (
      still_held old new a.appended.added shape bytes none a.appended.all refl held entry,
      inl (subst (λ (es : List (List Message)). Waits new.lines shape bytes (messages_in es)) (sym (same_entries old new a.appended.added none a.appended.all refl)) said.1),
    )

pub returns-in-Closed-clause-took : goal.returns-in-Closed-clause-took
returns-in-Closed-clause-took c = λ shape bytes h.
    let old = c.loop-self.self in
    let held = c.loop-self.invariant.holds shape bytes h in
    let a = c.in_ok-take_line.ensures.answered in
    let new : Reading = record { lines = c.take_line.new.self; counts = old.counts; messages = c.take_line.new.out } in
    let none = subst (λ (s : SourceStep). TakesLine s (lines_left old.lines) (lines_left new.lines) a.appended.added) c.in-Closed.is a.takes in
    let entry = subst (λ (s : SourceStep). AnswersEntry s c.take_line.new.self shape bytes (read_entries old) a.appended.added) c.in-Closed.is (a.by_line shape bytes (read_entries old) held.reads) in
    let said = subst (λ (s : SourceStep). AnswersStep s c.take_line.new.self shape bytes (messages_in (read_entries old)) a.appended.added) c.in-Closed.is (a.says shape bytes (messages_in (read_entries old)) held.reads.reads) in
    let same = same_entries old new a.appended.added none a.appended.all refl in (
      still_held old new a.appended.added shape bytes none a.appended.all refl held entry.0,
      inr (record {
        closed = subst (λ (es : List (List Message)). IsClosedSource new.lines shape bytes (messages_in es)) (sym same) said.1;
        all = ap (λ (es : List (List Message)). es ++ (message.End ∷ []) ∷ []) same ∙ entry.1;
      }),
    )

pub returns-in-Refused-clause-took : goal.returns-in-Refused-clause-took
returns-in-Refused-clause-took c = λ shape bytes h.
    let old = c.loop-self.self in
    let held = c.loop-self.invariant.holds shape bytes h in
    let a = c.in_ok-take_line.ensures.answered in
    let new : Reading = record { lines = c.take_line.new.self; counts = old.counts; messages = c.take_line.new.out } in
    let none = subst (λ (s : SourceStep). TakesLine s (lines_left old.lines) (lines_left new.lines) a.appended.added) c.in-Refused.is a.takes in
    let said = subst (λ (s : SourceStep). AnswersStep s c.take_line.new.self shape bytes (messages_in (read_entries old)) a.appended.added) c.in-Refused.is (a.says shape bytes (messages_in (read_entries old)) held.reads.reads) in
    subst (λ (es : List (List Message)). IsRefused new.lines shape bytes (messages_in es) c.in-Refused.refusal) (sym (same_entries old new a.appended.added none a.appended.all refl)) said
