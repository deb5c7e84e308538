use Rattle.std.proofs.Common.{◌++◌, ◌∷◌, [], List, cond, ap, sym, ◌∙◌, Bool, append-nil}
use Rattle.std.proofs.lemmas.Bool.{lt-ltb, le-ltb}
use Rattle.cedr_base.specs.declared.change.Message.TheVariants as message
use Rattle.cedr_guard.specs.declared.state.EventState.{EventState}
use Rattle.cedr_guard.specs.Spelt.{state_in}
use Rattle.plan_live.specs.Restoring.{insertions, withdrawals}
use Rattle.plan_live.proofs.StateLemmas.{appended_are}
use Rattle.plan_live.proofs.state.state_messages.Goals as goal
use Rattle.plan_live.proofs.state.state_messages.Goals.{then-state-gt0+in_ok-push, else-state-gt0}

pub returns : goal.returns
returns c =
    let mark = c.args.state.now.mark in
    let second = c.withdraw_events.new.messages.items in
    let all = appended_are (state_in c.args.state.now) c.requires c.new-messages.result.items c.insert_events.new.messages.items second c.new-messages.ensures.items
    (c.in_ok-insert_events.ensures ∙ ap (λ (es : List EventState). c.new-messages.result.items ++ insertions es) c.deref.ensures.value)
    (c.in_ok-withdraw_events.ensures ∙ ap (λ (es : List EventState). c.insert_events.new.messages.items ++ withdrawals es) c.deref-2.ensures.value) in
    elim c.if-state-gt0.branch [
      | then-state-gt0+in_ok-push w ↦
          ap (λ v. v.items) w.messages-is ∙ (w.in_ok-push.ensures.items ∙ (sym (ap (λ (b : Bool). second ++ cond b (message.Mark mark ∷ []) []) (lt-ltb 0 mark w.if-state-gt0.true)) ∙ all))
      | else-state-gt0 w ↦
          ap (λ v. v.items) w.messages-is ∙ (sym (append-nil second) ∙ (sym (ap (λ (b : Bool). second ++ cond b (message.Mark mark ∷ []) []) (le-ltb 0 mark w.if-state-gt0.false)) ∙ all))
    ]
