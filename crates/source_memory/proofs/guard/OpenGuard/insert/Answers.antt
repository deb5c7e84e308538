use Rattle.std.proofs.Common.{List, ◌≡◌, ℕ, Bool, cond, Some, refl, ap, sym, ◌∙◌, subst}
use Rattle.std.specs.Prelude.{nat_eq}
use Rattle.cedr_base.specs.declared.row.Row.{Row}
use Rattle.cedr_text.specs.declared.fault.LineFault.TheVariants.{KnownId}
use Rattle.cedr_guard.specs.Judging.{guarantee_fault}
use Rattle.open_events.specs.Events.{open_row}
use Rattle.cedr_text.specs.declared.event_line.EventLine.{EventLine}
use Rattle.source_memory.specs.declared.guard.OpenGuard.{OpenGuard}
use Rattle.source_memory.specs.Opened.{Recalls}
use Rattle.source_memory.proofs.OpenLemmas.{judged_insert, none_from, on_err, recalls_kept, stands_insert}
use Rattle.source_memory.proofs.guard.OpenGuard.insert.Goals as goal

pub returns-then-knows-clause-judged : goal.returns-then-knows-clause-judged
returns-then-knows-clause-judged c = λ kept recalls.
    let self = c.args.self.now in
    let row = c.args.row.now in
    judged_insert self kept c.args.id row recalls ∙ ap (λ (b : Bool). cond b (Some KnownId) (guarantee_fault row.begin self.mark)) (sym c.knows.ensures ∙ c.if-knows.true)

pub returns-in-Some-clause-judged : goal.returns-in-Some-clause-judged
returns-in-Some-clause-judged c = λ kept recalls.
    let self = c.args.self.now in
    let row = c.args.row.now in
    judged_insert self kept c.args.id row recalls
    ∙ (ap (λ (b : Bool). cond b (Some KnownId) (guarantee_fault row.begin self.mark)) (sym c.knows.ensures ∙ c.if-knows.false)
    ∙ (sym c.guarantee_fault.ensures ∙ c.in-Some.is))

pub returns-clause-judged : goal.returns-clause-judged
returns-clause-judged c = λ kept recalls.
    let self = c.args.self.now in
    let row = c.args.row.now in
    judged_insert self kept c.args.id row recalls
    ∙ (ap (λ (b : Bool). cond b (Some KnownId) (guarantee_fault row.begin self.mark)) (sym c.knows.ensures ∙ c.if-knows.false)
    ∙ (sym c.guarantee_fault.ensures ∙ c.in_default.is))

pub returns-clause-stands : goal.returns-clause-stands
returns-clause-stands c = λ kept recalls.
    let self = c.args.self.now in
    stands_insert self _ kept c.args.id c.args.row.now recalls c.requires.event (none_from (open_row self.events c.args.id) (sym c.knows.ensures ∙ c.if-knows.false)) (sym c.guarantee_fault.ensures ∙ c.in_default.is)
    (subst (λ (r : Row). (q : ℕ) → open_row c.put.new.self q ≡ cond (nat_eq c.args.id q) (Some r) (open_row self.events q)) c.in_ok-kept.ensures c.in_ok-put.ensures.ok) refl

pub returns-in_err-put-clause-stays : goal.returns-in_err-put-clause-stays
returns-in_err-put-clause-stays c =
    let self = c.args.self.now in
    let left : OpenGuard = record { events = c.put.new.self; mark = self.mark } in
    let stays : (kept : List EventLine) → Recalls self kept → Recalls left kept = λ kept recalls. recalls_kept self left kept recalls refl c.in_err-put.ensures.err in
    on_err _ _ stays
