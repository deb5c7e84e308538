use Rattle.std.proofs.Common.{List, [], Result, Ok, Err, Vec, set, refl, sym, ap, ◌∙◌, subst}
use Rattle.std.specs.Global.{Global}
use Rattle.std.proofs.lemmas.Result.{err_from_is_err_and}
use Rattle.cedr_base.specs.declared.change.Message.{Message}
use Rattle.cedr_guard.specs.declared.fault.GuardFault.{GuardFault}
use Rattle.cedr_guard.specs.declared.fault.GuardFault.TheVariants as guard_fault
use Rattle.cedr_guard.specs.Sources.{with_reading}
use Rattle.cedr_guard.specs.Standing.{Guards}
use Rattle.cedr_guard.specs.declared.guard.Guard.{Guard}
use Rattle.cedr_net.proofs.EdgeLemmas.{any_default}
use Rattle.cedr_source.specs.Steps.{JudgesLine}
use Rattle.cedr_text.specs.Reading.{reading}
use Rattle.cedr_text.specs.declared.event_line.EventLine.{EventLine}
use Rattle.cedr_text.specs.declared.fault.LineFault.{LineFault}
use Rattle.plan_live.specs.Playing.{JudgesAt}
use Rattle.plan_live.proofs.guards.judge_at.Goals as goal

-- a fault says nothing of messages
fault_given : (fault : GuardFault) (guard : Guard) (before : List EventLine) (now : Result (List EventLine) LineFault) (old new : List Message) → JudgesLine (Err fault) guard before now old new → JudgesLine (Err fault) guard before now [] []
fault_given (guard_fault.Line fault) guard before now old new judged = judged
fault_given guard_fault.OutOfMemory guard before now old new judged = tt

pub returns-in_err-judge_line : goal.returns-in_err-judge_line
returns-in_err-judge_line c =
    let guards = c.args.guards.now.items in
    let place = c.args.place in
    let guard = c.index_mut.result.now in
    let fault = c.in_err-judge_line.field-0.0 in
    let p = err_from_is_err_and c.from_residual.result c.from_residual.ensures.1 in
    subst (λ (r : Result (Vec Message Global) GuardFault). JudgesAt r guards (set guards place c.judge_line.new.guard) place (reading c.args.shape.now c.args.line.now)) (sym (p.1 ∙ ap (λ f. Err f) p.2))
    (record {
      now = c.judge_line.new.guard;
      set_to = refl;
      judged = λ d before stands.
          fault_given fault c.judge_line.new.guard before (with_reading before (reading c.args.shape.now c.args.line.now)) _ _
          (c.in_err-judge_line.ensures.judged before (subst (λ (g : Guard). Guards g before) (any_default guards place d guard c.requires ∙ sym c.index_mut.ensures.value) stands));
    })

pub returns : goal.returns
returns c =
    let guards = c.args.guards.now.items in
    let place = c.args.place in
    let guard = c.index_mut.result.now in
    record {
      now = c.judge_line.new.guard;
      set_to = refl;
      judged = λ d before stands.
          subst (λ (ms : List Message). JudgesLine (Ok tt) c.judge_line.new.guard before (with_reading before (reading c.args.shape.now c.args.line.now)) ms c.judge_line.new.out.items) c.new-messages.ensures.items
          (c.in_ok-judge_line.ensures.judged before (subst (λ (g : Guard). Guards g before) (any_default guards place d guard c.requires ∙ sym c.index_mut.ensures.value) stands));
    }
