use Rattle.std.proofs.Common.{◌≡◌, ◌<◌, Result, Err, length, get_or, set, ap, sym, ◌∙◌, subst, arith}
use Rattle.std.proofs.lemmas.Result.{err_from_is_err_and}
use Rattle.cedr_guard.specs.declared.fault.GuardFault.{GuardFault}
use Rattle.cedr_guard.specs.Sources.{with_reading}
use Rattle.cedr_net.proofs.EdgeLemmas.{any_default}
use Rattle.cedr_text.specs.Reading.{reading}
use Rattle.cedr_text.specs.declared.event_line.Shape.{Shape}
use Rattle.cedr_text.specs.declared.event_line.Shape.TheVariants.{AnyText}
use Rattle.plan_live.specs.Judged.{JudgesScriptLine}
use Rattle.plan_live.specs.Playing.{IsLineFault}
use Rattle.plan_live.specs.Scripts.{lines_at, with_lines}
use Rattle.plan_live.proofs.GuardLemmas.{one_stands, fault_passes}
use Rattle.plan_live.proofs.judge.judge_event.Goals as goal

pub returns-in_err-judge_at : goal.returns-in_err-judge_at
returns-in_err-judge_at c = λ nodes before stands within.
    let shapes = c.args.shapes.now in
    let place = c.args.place in
    let event = c.args.event.now in
    let j = c.in_err-judge_at.ensures in
    let fault = c.in_err-judge_at.field-0.0 in
    let q = err_from_is_err_and c.from_residual.result c.from_residual.ensures.1 in
    let shape : c.index-shapes-place.result ≡ get_or shapes place AnyText = c.index-shapes-place.is ∙ any_default shapes place c.index-shapes-place.result AnyText c.requires.shape in
    let passes = fault_passes fault j.now before place (with_reading (lines_at before place) (reading c.index-shapes-place.result event)) (j.judged j.now (lines_at before place) (stands.each place j.now within)) in
    let says = ap (λ (s : Shape). with_lines before place (with_reading (lines_at before place) (reading s event))) shape in
    subst (λ (r : Result (Unit {0}) GuardFault). JudgesScriptLine r nodes c.judge_at.new.guards.items (with_lines before place (with_reading (lines_at before place) (reading (get_or shapes place AnyText) event)))) (sym (q.1 ∙ ap (λ f. Err f) q.2)) (subst (IsLineFault fault) says passes)

pub returns : goal.returns
returns c = λ nodes before stands within.
    let shapes = c.args.shapes.now in
    let place = c.args.place in
    let event = c.args.event.now in
    let j = c.in_ok-judge_at.ensures in
    let shape : c.index-shapes-place.result ≡ get_or shapes place AnyText = c.index-shapes-place.is ∙ any_default shapes place c.index-shapes-place.result AnyText c.requires.shape in
    let judged = j.judged j.now (lines_at before place) (stands.each place j.now within) in (
      set before place judged.0,
      ap (with_lines before place) (ap (λ (s : Shape). with_reading (lines_at before place) (reading s event)) (sym shape) ∙ judged.1),
      one_stands nodes c.args.guards.now.items before place stands within judged.0 j.now judged.2 c.judge_at.new.guards.items j.set_to,
    )
