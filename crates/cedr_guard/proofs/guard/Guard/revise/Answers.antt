use Rattle.std.proofs.Common.{◌++◌, ◌∷◌, [], List, true, false, set, refl, ap, sym, ◌∙◌, append-nil}
use Rattle.std.proofs.lemmas.Bool.{lt-ltb, le-ltb}
use Rattle.cedr_base.specs.declared.change.Change.TheVariants.{Add, Cut}
use Rattle.cedr_base.specs.declared.change.Message.{Message}
use Rattle.cedr_base.specs.declared.change.Message.TheVariants as message
use Rattle.cedr_base.specs.declared.field.Field.{Field}
use Rattle.cedr_base.specs.declared.row.Row.{Row}
use Rattle.cedr_guard.specs.Messages.{withdrawal_of}
use Rattle.cedr_guard.proofs.GuardLemmas.{guards-revise, event_found, revised_messages}
use Rattle.cedr_guard.proofs.guard.Guard.revise.Goals as goal
use Rattle.cedr_guard.proofs.guard.Guard.revise.Goals.{then-interval+in_ok-push, else-interval}

pub returns-clause-appends : goal.returns-clause-appends
returns-clause-appends c = λ before guards.
    let found = c.in_ok-place.field-0 in
    let old : Row = record { end = found.interval.end; begin = found.interval.begin; payload = c.in-Some.payload } in
    let row = c.args.row.now in
    let out = c.args.out.now.items in
    let mid = c.if-interval.out.items in
    let event = event_found c.args.self.now before c.args.id found c.in-Some.payload guards (c.in_ok-place.ensures.event before guards.judge) c.in-Some.ensures.some.1 in
    c.in_ok-push-2.ensures.items
    ∙ (ap (λ (r : Row). mid ++ message.Change (Add r) ∷ []) c.in_ok-added.ensures
    ∙ (elim c.if-interval.branch [
      | then-interval+in_ok-push w ↦
          revised_messages true old row out mid (lt-ltb old.begin old.end w.if-interval.true)
          (ap (λ v. v.items) w.out-is ∙ (w.in_ok-push.ensures.items ∙ ap (λ (ms : List Message). ms ++ message.Change (Cut old old.begin) ∷ []) c.reserve.ensures.items))
      | else-interval w ↦
          revised_messages false old row out mid (le-ltb old.begin old.end w.if-interval.false) (ap (λ v. v.items) w.out-is ∙ (c.reserve.ensures.items ∙ sym (append-nil out)))
    ]
    ∙ ap (λ event. out ++ (withdrawal_of event ++ message.Change (Add row) ∷ [])) (sym event)))

pub returns-clause-stands : goal.returns-clause-stands
returns-clause-stands c = λ before guards.
    let event = c.in_ok-place.ensures.event before guards.judge in
    let none = c.in_ok-place.ensures.judged before c.args.row.now guards.judge refl in
    guards-revise c.args.self.now _ before c.args.id c.in_ok-place.field-0.place c.args.row.now guards c.requires.event event.place none
    (c.replace.ensures before c.args.id c.args.row.now guards.judge event.place refl)
    (c.in-Some.ensures.some.2 ∙ ap (λ (p : List Field). set c.args.self.now.payloads.items c.in_ok-place.field-0.place p) c.in_ok-kept.ensures)
