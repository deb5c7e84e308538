use Rattle.std.proofs.Common.{List, ◌++◌, refl, ap, sym, ◌∙◌}
use Rattle.cedr_base.specs.declared.change.Message.{Message}
use Rattle.source_memory.proofs.OpenLemmas.{messages_quiet, messages_risen, recalls_same, recalls_risen}
use Rattle.source_memory.proofs.guard.OpenGuard.promise.Goals as goal

pub returns-then-time-mark-clause-appends : goal.returns-then-time-mark-clause-appends
returns-then-time-mark-clause-appends c = λ kept recalls. messages_quiet c.args.self.now kept c.args.time c.args.out.now.items recalls c.if-time-mark.true

pub returns-then-time-mark-clause-stands : goal.returns-then-time-mark-clause-stands
returns-then-time-mark-clause-stands c = λ kept recalls. recalls_same c.args.self.now kept c.args.time recalls (record { event = c.requires.event; faultless = refl }) c.if-time-mark.true

pub returns-clause-appends : goal.returns-clause-appends
returns-clause-appends c = λ kept recalls. c.in_ok-push.ensures.items ∙ ap (λ (ms : List Message). c.args.out.now.items ++ ms) (sym (messages_risen c.args.self.now kept c.args.time recalls c.if-time-mark.false))

pub returns-clause-stands : goal.returns-clause-stands
returns-clause-stands c = λ kept recalls. recalls_risen c.args.self.now _ kept c.args.time recalls (record { event = c.requires.event; faultless = refl }) c.if-time-mark.false c.forget_ended.ensures refl
