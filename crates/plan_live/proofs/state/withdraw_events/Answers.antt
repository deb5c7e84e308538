use Rattle.std.proofs.Common.{◌≡◌, ◌<◌, ◌++◌, ◌∷◌, [], length, get_or, ap, ◌∙◌, rules}
use Rattle.cedr_base.specs.declared.row.Row.{Row}
use Rattle.cedr_base.specs.declared.change.Change.TheVariants.{Cut}
use Rattle.cedr_base.specs.declared.change.Message.TheVariants as message
use Rattle.plan_live.proofs.StateLemmas.{living_more, gone_more}
use Rattle.plan_live.proofs.state.withdraw_events.Goals as goal

pub loop-event-preserved-then-event : goal.loop-event-preserved-then-event
loop-event-preserved-then-event c =
    let events = c.args.events.now in
    let i = c.loop-event.event-index in
    let e = c.event-item.result in
    let within : i < length events = search rules in
    let at : get_or events i e ≡ e = search rules in
    living_more events i e c.loop-event.messages.items c.args.messages.now.items within at c.loop-event.invariant c.if-event.true

pub loop-event-preserved : goal.loop-event-preserved
loop-event-preserved c =
    let events = c.args.events.now in
    let i = c.loop-event.event-index in
    let e = c.event-item.result in
    let within : i < length events = search rules in
    let at : get_or events i e ≡ e = search rules in
    gone_more events i e c.loop-event.messages.items c.args.messages.now.items within at c.loop-event.invariant c.push.new.self.items c.if-event.false
    (c.in_ok-push.ensures.items ∙ ap (λ (row : Row). c.loop-event.messages.items ++ message.Change (Cut row e.begin) ∷ []) c.in_ok-row.ensures)
