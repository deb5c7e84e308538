use Rattle.std.proofs.Common.{◌≡◌, ◌++◌, ℕ, List, Option, None, Some, Bor, get_or, refl, ap, sym, ◌∙◌}
use Rattle.std.specs.Prelude.{IfSome}
use Rattle.cedr_base.specs.declared.field.Field.{Field}
use Rattle.cedr_guard.specs.Messages.{cut_of}
use Rattle.cedr_guard.proofs.GuardLemmas.{guards-retract, event_found}
use Rattle.cedr_guard.proofs.guard.Guard.retract.Goals as goal

-- the payload that was read and copied is the one at this place
found_payload : (read : Option (Bor (List Field))) (payloads : List (List Field)) (p : ℕ) (found : Bor (List Field)) (payload : List Field)
    → IfSome read (λ x. x.now ≡ get_or payloads p x.now) → read ≡ Some found → payload ≡ found.now → get_or payloads p payload ≡ payload
found_payload None payloads p found payload at is copied = cc
found_payload (Some first) payloads p found payload at is copied = let here = at in cc

pub returns-clause-appends : goal.returns-clause-appends
returns-clause-appends c = λ before guards.
    let found = c.in_ok-place.field-0 in
    let event = event_found c.args.self.now before c.args.id found c.in_ok-payload.payload guards (c.in_ok-place.ensures.event before guards.judge) (ap (λ xs. get_or xs c.in_ok-place.field-0.place c.in_ok-payload.payload) (sym c.deref.ensures.value) ∙ found_payload c.get.result c.deref.result.now c.in_ok-place.field-0.place c.in-Some.payload c.in_ok-payload.payload c.get.ensures.lookup.1 c.in-Some.is c.in_ok-payload.ensures) in
    c.in_ok-push.ensures.items ∙ ap (λ event. c.args.out.now.items ++ cut_of event c.args.end) (sym event)

pub returns-clause-stands : goal.returns-clause-stands
returns-clause-stands c = λ before guards.
    let event = c.in_ok-place.ensures.event before guards.judge in
    let none = c.in_ok-place.ensures.judged before guards.judge in
    guards-retract c.args.self.now _ before c.args.id c.args.end guards c.requires.event none (c.cut.ensures before c.args.id guards.judge event.place none) refl
