use Rattle.std.proofs.Common.{◌≡◌, List, [], ◌∷◌, ◌++◌, ℕ, Result, Ok, Err, ◌≤◌, length, cond, ap, sym, ◌∙◌, subst, arith}
use Rattle.std.proofs.lemmas.Bool.{le-ltb}
use Rattle.std.specs.Prelude.{OnOk}
use Rattle.std.specs.Option.{option_map}
use Rattle.cedr_text.specs.declared.event_line.EventLine.{EventLine}
use Rattle.cedr_text.specs.declared.event_line.Shape.TheVariants.{AnyText}
use Rattle.cedr_text.specs.declared.fault.LineFault.TheVariants.{LineTooLong}
use Rattle.cedr_text.specs.EventTexts.{as_line}
use Rattle.cedr_text.specs.Reading.{reading}
use Rattle.cedr_text.specs.Lines.{without_return}
use Rattle.cedr_text.specs.declared.lines.TheConstants.{LINE_LIMIT}
use Rattle.cedr_guard.specs.declared.fault.GuardFault.{GuardFault}
use Rattle.cedr_guard.specs.declared.fault.GuardFault.TheVariants as guard_fault
use Rattle.cedr_guard.specs.Judging.{fault_behind}
use Rattle.cedr_guard.specs.Sources.{with_event, with_reading, line_reading}
use Rattle.cedr_guard.specs.Standing.{Judges}
use Rattle.cedr_commands.specs.declared.events.Events.{Events}
use Rattle.cedr_commands.specs.Events.{AreEventsOf, TakesEvent}
use Rattle.cedr_commands.proofs.history.judge_line.Goals as goal

-- a line that is taken or refused is judged after those before it
event_taken : (result : Result (Unit {0}) GuardFault) (now : Events) (before : List EventLine) (line : EventLine) → Judges result (fault_behind before line) → OnOk result (AreEventsOf now (before ++ line ∷ []))
    → TakesEvent result now (with_event before line (fault_behind before line))
event_taken (Ok done) now before line faultless are = (before ++ line ∷ [], ap (with_event before line) faultless, are)
event_taken (Err (guard_fault.Line fault)) now before line faulty are = ap (with_event before line) faulty
event_taken (Err guard_fault.OutOfMemory) now before line judged are = tt

-- what holds of all lines before holds of these
on_lines : (result : Result (Unit {0}) GuardFault) (P : List EventLine → Type 0) (Q : List EventLine → Type 0) (before : List EventLine) → OnOk result ((lines : List EventLine) → P lines → Q lines) → P before → OnOk result (Q before)
on_lines (Ok done) P Q before holds here = holds before here
on_lines (Err fault) P Q before holds here = tt

-- a line that isn't too long is read
short_line : (line : List ℕ) → length line ≤ LINE_LIMIT → line_reading AnyText line ≡ reading AnyText (without_return line)
short_line line short = ap (λ test. cond test (Err LineTooLong) (reading AnyText (without_return line))) (le-ltb LINE_LIMIT (length line) short)

pub returns-in-Ok-Some : goal.returns-in-Ok-Some
returns-in-Ok-Some c = λ before are.
    let event = as_line c.in-Ok-Some.event in
    let says = ap (reading AnyText) (sym c.without_return.ensures) ∙ c.in-Ok-Some.ensures ∙ ap (λ said. Ok (option_map as_line said)) c.in-Ok-Some.field-0-is in
    subst (λ read. TakesEvent c.take.result c.take.new.self (with_reading before read)) (sym (short_line c.args.line.now (omega (arith, c.if-line-gt-LINE_LIMIT.false)) ∙ says))
    (event_taken c.take.result c.take.new.self before event (c.take.ensures.judged before are)
    (on_lines c.take.result (AreEventsOf c.args.events.now) (λ lines. AreEventsOf c.take.new.self (lines ++ event ∷ [])) before c.take.ensures.taken are))
