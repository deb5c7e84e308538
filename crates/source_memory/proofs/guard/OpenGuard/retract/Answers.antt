use Rattle.std.proofs.Common.{List, [], ◌∷◌, ◌++◌, refl, ap, sym, ◌∙◌}
use Rattle.cedr_base.specs.declared.change.Change.TheVariants.{Cut}
use Rattle.cedr_base.specs.declared.change.Message.{Message}
use Rattle.cedr_base.specs.declared.change.Message.TheVariants as message
use Rattle.cedr_text.specs.declared.event_line.EventLine.{EventLine}
use Rattle.source_memory.specs.declared.guard.OpenGuard.{OpenGuard}
use Rattle.source_memory.specs.Opened.{Recalls}
use Rattle.source_memory.proofs.OpenLemmas.{messages_retract, on_err, recalls_kept, stands_retract}
use Rattle.source_memory.proofs.guard.OpenGuard.retract.Goals as goal

pub returns-clause-appends : goal.returns-clause-appends
returns-clause-appends c = λ kept recalls.
    let before = c.in_ok-before.before in
    let found = c.in_ok-before.ensures.found in
    c.in_ok-push.ensures.items
    ∙ (ap (λ (ms : List Message). ms ++ message.Change (Cut before c.args.end) ∷ []) c.reserve.ensures.items
    ∙ ap (λ (ms : List Message). c.args.out.now.items ++ ms) (sym (messages_retract c.args.self.now kept c.args.id c.args.end before recalls found.0 found.1)))

pub returns-clause-stands : goal.returns-clause-stands
returns-clause-stands c = λ kept recalls.
    let found = c.in_ok-before.ensures.found in
    stands_retract c.args.self.now _ kept c.args.id c.args.end c.in_ok-before.before c.in_ok-left.left recalls c.requires.event found.0 found.1 c.in_ok-left.ensures c.in_ok-put.ensures.ok refl

pub returns-in_err-put-clause-stays : goal.returns-in_err-put-clause-stays
returns-in_err-put-clause-stays c =
    let self = c.args.self.now in
    let left : OpenGuard = record { events = c.put.new.self; mark = self.mark } in
    let stays : (kept : List EventLine) → Recalls self kept → Recalls left kept = λ kept recalls. recalls_kept self left kept recalls refl c.in_err-put.ensures.err in
    on_err _ _ stays
