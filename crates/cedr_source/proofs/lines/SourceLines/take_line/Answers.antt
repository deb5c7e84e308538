use Rattle.std.proofs.Common.{refl, subst}
use Rattle.cedr_text.specs.Lines.{Steps}
use Rattle.cedr_text.specs.Reading.{reading}
use Rattle.cedr_guard.specs.Sources.{with_reading}
use Rattle.cedr_source.specs.Steps.{JudgesLine}
use Rattle.cedr_source.proofs.ReadsLemmas.{line_falls, long_told, large_told, waiting_told, closed_told}
use Rattle.cedr_source.proofs.ByLineLemmas.{line_answered, nothing_answered, refused_answered, still_by_line, closed_by_line}
use Rattle.cedr_source.proofs.lines.SourceLines.take_line.Goals as goal

pub returns-in-Line-clause-answered : goal.returns-in-Line-clause-answered
returns-in-Line-clause-answered c =
    let steps = subst (λ step. Steps step c.args.self.now.lines c.next_line.new.self c.args.self.now.line.items c.next_line.new.line.items) c.in-Line.is c.in_ok-next_line.ensures.ok in
    line_answered c.args.self.now _ c.next_line.new.line.items c.judge_line-judged.result c.step_of.result c.args.out.now.items c.judge_line-judged.new.out.items
    (record {
      gives = steps;
      finished = c.next_line.ensures.goes_on;
      shape = refl;
      number = c.saturating_add-self.ensures;
      room = refl;
      over = refl;
    })
    refl
    (λ before guards.
    subst (λ line. JudgesLine c.judge_line-judged.result c.judge_line-judged.new.guard before (with_reading before (reading c.args.self.now.shape line)) c.args.out.now.items c.judge_line-judged.new.out.items) c.deref.ensures.value
    (c.judge_line-judged.ensures.judged before guards))
    c.step_of.ensures c.judge_line-judged.ensures.appended c.judge_line-judged.ensures.kept
    (line_falls c.args.self.now.lines c.next_line.new.self c.next_line.new.line.items steps)

pub returns-in-TooLong-clause-answered : goal.returns-in-TooLong-clause-answered
returns-in-TooLong-clause-answered c =
    let steps = subst (λ step. Steps step c.args.self.now.lines c.next_line.new.self c.args.self.now.line.items c.next_line.new.line.items) c.in-TooLong.is c.in_ok-next_line.ensures.ok in
    refused_answered c.args.self.now _ c.refused.result _ _ c.args.out.now.items c.args.out.now.items c.refused.ensures refl
    (long_told c.args.self.now _ c.refused.result c.refused.ensures (record { lines = steps.1; guard = refl; shape = refl; number = refl; room = refl; over = refl }) steps.0)

pub returns-in-NotYet-clause-answered : goal.returns-in-NotYet-clause-answered
returns-in-NotYet-clause-answered c =
    let steps = subst (λ step. Steps step c.args.self.now.lines c.next_line.new.self c.args.self.now.line.items c.next_line.new.line.items) c.in-NotYet.is c.in_ok-next_line.ensures.ok in
    refused_answered c.args.self.now _ c.refused-in-NotYet.result _ _ c.args.out.now.items c.args.out.now.items c.refused-in-NotYet.ensures refl
    (large_told c.args.self.now _ c.refused-in-NotYet.result c.refused-in-NotYet.ensures (record { lines = steps.1; guard = refl; shape = refl; number = refl; room = refl; over = refl }) steps.0 c.if-self.true)

pub returns-in-NotYet-2-clause-answered : goal.returns-in-NotYet-2-clause-answered
returns-in-NotYet-2-clause-answered c =
    let steps = subst (λ step. Steps step c.args.self.now.lines c.next_line.new.self c.args.self.now.line.items c.next_line.new.line.items) c.in-NotYet-2.is c.in_ok-next_line.ensures.ok in
    nothing_answered c.args.self.now _ _ c.args.out.now.items c.args.out.now.items refl refl (waiting_told c.args.self.now _ (record { lines = steps.1; guard = refl; shape = refl; number = refl; room = refl; over = refl }) steps.0 c.if-self.false) (still_by_line c.args.self.now _ (record { lines = steps.1; guard = refl; shape = refl; number = refl; room = refl; over = refl }))

pub returns-in-Finished-clause-answered : goal.returns-in-Finished-clause-answered
returns-in-Finished-clause-answered c =
    let steps = subst (λ step. Steps step c.args.self.now.lines c.next_line.new.self c.args.self.now.line.items c.next_line.new.line.items) c.in-Finished.is c.in_ok-next_line.ensures.ok in
    nothing_answered c.args.self.now _ _ c.args.out.now.items c.args.out.now.items refl refl (closed_told c.args.self.now _ (record { lines = steps.1; guard = refl; shape = refl; number = refl; room = refl; over = refl }) steps.0) (closed_by_line c.args.self.now _ (record { lines = steps.1; guard = refl; shape = refl; number = refl; room = refl; over = refl }) steps.0)
