use Rattle.std.proofs.Common.{◌≡◌, ℕ, List, [], ◌∷◌, ◌++◌, cond, Some, true, false, refl, ap, sym, ◌∙◌, subst, append-nil}
use Rattle.std.specs.Prelude.{nat_eq}
use Rattle.std.proofs.lemmas.Bool.{lt-ltb, le-ltb}
use Rattle.cedr_base.specs.declared.change.Change.TheVariants.{Add, Cut}
use Rattle.cedr_base.specs.declared.change.Message.{Message}
use Rattle.cedr_base.specs.declared.change.Message.TheVariants as message
use Rattle.cedr_base.specs.declared.row.Row.{Row}
use Rattle.open_events.specs.Events.{open_row}
use Rattle.cedr_text.specs.declared.event_line.EventLine.{EventLine}
use Rattle.source_memory.specs.declared.guard.OpenGuard.{OpenGuard}
use Rattle.source_memory.specs.Opened.{Recalls}
use Rattle.source_memory.proofs.OpenLemmas.{revised_at, appended_one, appended_two, on_err, recalls_kept, stands_revise}
use Rattle.source_memory.proofs.guard.OpenGuard.revise.Goals as goal
use Rattle.source_memory.proofs.guard.OpenGuard.revise.Goals.{then-interval+in_ok-push, else-interval}

pub returns-clause-appends : goal.returns-clause-appends
returns-clause-appends c = λ kept recalls.
    let before = c.in_ok-before.before in
    let row = c.args.row.now in
    let out = c.args.out.now.items in
    let mid = c.if-interval.out.items in
    let found = c.in_ok-before.ensures.found in
    c.in_ok-push-2.ensures.items
    ∙ (ap (λ (r : Row). mid ++ message.Change (Add r) ∷ []) c.in_ok-added.ensures
    ∙ (elim c.if-interval.branch [
      | then-interval+in_ok-push w ↦
          revised_at c.args.self.now kept c.args.id before row out mid true recalls found.0 (lt-ltb before.begin before.end w.if-interval.true)
          (ap (λ v. v.items) w.out-is ∙ (w.in_ok-push.ensures.items ∙ ap (λ (ms : List Message). ms ++ message.Change (Cut before before.begin) ∷ []) c.reserve.ensures.items))
      | else-interval w ↦
          revised_at c.args.self.now kept c.args.id before row out mid false recalls found.0 (le-ltb before.begin before.end w.if-interval.false)
          (ap (λ v. v.items) w.out-is ∙ (c.reserve.ensures.items ∙ sym (append-nil out)))
    ]))

pub returns-clause-appended : goal.returns-clause-appended
returns-clause-appended c =
    let before = c.in_ok-before.before in
    let out = c.args.out.now.items in
    let mid = c.if-interval.out.items in
    let add = message.Change (Add c.in_ok-added.added) in
    let cut = message.Change (Cut before before.begin) in
    elim c.if-interval.branch [
      | then-interval+in_ok-push w ↦
          appended_two out mid _ cut add (ap (λ v. v.items) w.out-is ∙ (w.in_ok-push.ensures.items ∙ ap (λ (ms : List Message). ms ++ cut ∷ []) c.reserve.ensures.items)) c.in_ok-push-2.ensures.items
      | else-interval w ↦ appended_one out mid _ add (ap (λ v. v.items) w.out-is ∙ c.reserve.ensures.items) c.in_ok-push-2.ensures.items
    ]

pub returns-clause-stands : goal.returns-clause-stands
returns-clause-stands c = λ kept recalls.
    let self = c.args.self.now in
    let found = c.in_ok-before.ensures.found in
    stands_revise self _ kept c.args.id c.in_ok-before.before c.args.row.now recalls c.requires.event found.0 found.1
    (subst (λ (r : Row). (q : ℕ) → open_row c.put.new.self q ≡ cond (nat_eq c.args.id q) (Some r) (open_row self.events q)) c.in_ok-kept.ensures c.in_ok-put.ensures.ok) refl

pub returns-in_err-put-clause-stays : goal.returns-in_err-put-clause-stays
returns-in_err-put-clause-stays c =
    let self = c.args.self.now in
    let left : OpenGuard = record { events = c.put.new.self; mark = self.mark } in
    let stays : (kept : List EventLine) → Recalls self kept → Recalls left kept = λ kept recalls. recalls_kept self left kept recalls refl c.in_err-put.ensures.err in
    on_err _ _ stays
