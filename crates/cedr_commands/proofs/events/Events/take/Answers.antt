use Rattle.std.proofs.Common.{◌≡◌, List, [], ◌∷◌, ◌++◌, ℕ, Result, Ok, Err, set, ap, sym, ◌∙◌, subst, arith}
use Rattle.std.specs.Prelude.{OnOk}
use Rattle.std.specs.Vec.{with_item}
use Rattle.cedr_base.specs.declared.row.Row.{Row}
use Rattle.cedr_text.specs.declared.event_line.EventLine.{EventLine}
use Rattle.cedr_text.specs.declared.event_line.EventLine.TheVariants.{Retract}
use Rattle.cedr_text.specs.EventTexts.{as_line}
use Rattle.cedr_text.specs.declared.event_text.EventText.{EventText}
use Rattle.cedr_guard.specs.declared.fault.GuardFault.{GuardFault}
use Rattle.cedr_guard.specs.declared.judge.Judge.{Judge}
use Rattle.cedr_guard.specs.Judging.{fault_behind}
use Rattle.cedr_guard.specs.Standing.{interval_of, StandsFor, Judges}
use Rattle.cedr_guard.proofs.GuardLemmas.{payloads-insert, payloads-retract, payloads-revise, payloads-promise, payload_within}
use Rattle.cedr_commands.specs.declared.events.Events.{Events}
use Rattle.cedr_commands.specs.Events.{AreEventsOf}
use Rattle.cedr_commands.proofs.events.Events.take.Goals as goal

pub returns-in_ok-push-in-Insert-clause-taken : goal.returns-in_ok-push-in-Insert-clause-taken
returns-in_ok-push-in-Insert-clause-taken c = λ before are.
    let id = c.in-Insert.id in
    let row = c.in-Insert.row in
    let valid = ap interval_of (sym c.row.view_is) in
    subst (λ line. AreEventsOf (record { judge = c.insert.new.self; payloads = c.push.new.self }) (before ++ line ∷ [])) (sym (ap as_line c.in-Insert.is))
    (record {
      judge = c.in_ok-insert-in-Insert.ensures.stands before row are.judge valid;
      payloads = c.in_ok-push-in-Insert.ensures.items
          ∙ (ap (λ (r : Row). c.args.self.now.payloads.items ++ r.payload ∷ []) c.row.view_is
          ∙ (ap (λ olds. olds ++ row.payload ∷ []) are.payloads
          ∙ sym (payloads-insert c.args.self.now.judge before id row are.judge (c.in_ok-insert-in-Insert.ensures.judged before row are.judge valid))));
    })

retracted : (result : Result (Unit {0}) GuardFault) (judge : Judge) (events : Events) (id end : ℕ) (text : EventText) → as_line text ≡ Retract id end
    → ((before : List EventLine) → StandsFor events.judge before → Judges result (fault_behind before (Retract id end)))
    → OnOk result ((before : List EventLine) → StandsFor events.judge before → StandsFor judge (before ++ Retract id end ∷ []))
    → OnOk result ((before : List EventLine) → AreEventsOf events before → AreEventsOf (record { judge = judge; payloads = events.payloads }) (before ++ as_line text ∷ []))
retracted (Err fault) judge events id end text is judged stands = tt
retracted (Ok done) judge events id end text is judged stands = λ before are.
    subst (λ line. AreEventsOf (record { judge = judge; payloads = events.payloads }) (before ++ line ∷ [])) (sym is)
    (record { judge = stands before are.judge; payloads = are.payloads ∙ sym (payloads-retract events.judge before id end are.judge (judged before are.judge)) })

pub returns-in-Retract-clause-taken : goal.returns-in-Retract-clause-taken
returns-in-Retract-clause-taken c = retracted c.retract.result c.retract.new.self c.args.self.now c.in-Retract.id c.in-Retract.end c.args.line (ap as_line c.in-Retract.is) c.retract.ensures.judged c.retract.ensures.stands

pub returns-in-Promise-clause-taken : goal.returns-in-Promise-clause-taken
returns-in-Promise-clause-taken c = λ before are.
    subst (λ line. AreEventsOf (record { judge = c.promise.new.self; payloads = c.args.self.now.payloads }) (before ++ line ∷ [])) (sym (ap as_line c.in-Promise.is))
    (record { judge = c.promise.ensures.stands before are.judge; payloads = are.payloads ∙ sym (payloads-promise before c.in-Promise.time) })

pub returns-then-place-len-clause-taken : goal.returns-then-place-len-clause-taken
returns-then-place-len-clause-taken c = λ before are.
    let id = c.in-Revise.id in
    let row = c.in-Revise.row in
    let place = c.in_ok-place-in-Revise.place in
    let at = c.in_ok-place-in-Revise.ensures.place before are.judge in
    subst (λ line. AreEventsOf (record { judge = c.revise.new.self; payloads = with_item c.args.self.now.payloads place c.row-in-Revise.inside.payload }) (before ++ line ∷ [])) (sym (ap as_line c.in-Revise.is))
    (record {
      judge = c.in_ok-place-in-Revise.ensures.stands before row are.judge (ap interval_of (sym c.row-in-Revise.view_is));
      payloads = ap (λ (r : Row). set c.args.self.now.payloads.items place r.payload) c.row-in-Revise.view_is
          ∙ (ap (λ olds. set olds place row.payload) are.payloads ∙ sym (payloads-revise c.args.self.now.judge before id place row are.judge at));
    })

pub returns-else-place-len-clause-taken : goal.returns-else-place-len-clause-taken
returns-else-place-len-clause-taken c = λ before are.
    let at = c.in_ok-place-in-Revise.ensures.place before are.judge in
    let within = payload_within c.args.self.now.payloads.items before c.in-Revise.id c.in_ok-place-in-Revise.place are.payloads at in
    absurd (omega (arith, within, c.if-place-len.false, c.len.ensures, c.args.self.now.payloads.ok.0))
