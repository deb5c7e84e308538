use Rattle.std.proofs.Common.{◌≡◌, ◌<◌, ℕ, List, cond, Some, length, get_or, refl, subst, rules, arith}
use Rattle.std.proofs.lemmas.List.{take_all}
use Rattle.cedr_guard.specs.declared.state.EventState.{EventState}
use Rattle.cedr_guard.specs.Spelt.{state_in}
use Rattle.std.specs.Prelude.{nat_eq}
use Rattle.cedr_base.specs.declared.row.Row.{Row}
use Rattle.open_events.specs.Events.{open_row}
use Rattle.source_memory.proofs.OpenLemmas.{OpenAmong, among_put, among_left, recalls_state}
use Rattle.source_memory.proofs.guard.OpenGuard.restore.Goals as goal

pub loop-event-preserved-then-event-mark : goal.loop-event-preserved-then-event-mark
loop-event-preserved-then-event-mark c =
    let events = c.args.state.now.events.items in
    let i = c.loop-event.event-index in
    let e = c.event-item.result in
    let within : i < length events = search rules in
    let at : get_or events i e ≡ e = search rules in
    among_left c.args.state.now.mark events i e (open_row c.loop-event.events) c.requires.ascend within at c.if-event-mark.true c.loop-event.invariant

pub loop-event-preserved : goal.loop-event-preserved
loop-event-preserved c =
    let events = c.args.state.now.events.items in
    let i = c.loop-event.event-index in
    let e = c.event-item.result in
    let within : i < length events = search rules in
    let at : get_or events i e ≡ e = search rules in
    among_put c.args.state.now.mark events i e (open_row c.loop-event.events) (open_row c.put.new.self) c.requires.ascend within at c.if-event-mark.false c.loop-event.invariant
    (subst (λ (r : Row). (q : ℕ) → open_row c.put.new.self q ≡ cond (nat_eq e.id q) (Some r) (open_row c.loop-event.events q)) c.in_ok-row.ensures c.in_ok-put.ensures.ok)

pub returns : goal.returns
returns c =
    let state = c.args.state.now in
    let events = state.events.items in
    recalls_state _ (state_in state) c.requires refl
    (subst (λ (es : List EventState). OpenAmong state.mark es (open_row c.loop-event.events)) (take_all c.loop-event.event-index events (omega arith)) c.loop-event.invariant)
