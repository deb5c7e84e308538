use Rattle.std.proofs.Common.{Ok, ap, sym, ◌∙◌, subst, arith}
use Rattle.plan_live.specs.declared.line.ScriptLine.{ScriptLine}
use Rattle.plan_live.specs.Judged.{JudgesScriptLine, lines_behind}
use Rattle.plan_live.specs.Said.{SaysLine}
use Rattle.plan_live.proofs.JudgeLemmas.{accepted_behind}
use Rattle.plan_live.proofs.LineLemmas.{shapes_count}
use Rattle.plan_live.proofs.judge.judge_script_line.Goals as goal

pub returns-in-Ok-Nothing : goal.returns-in-Ok-Nothing
returns-in-Ok-Nothing c = λ before stands.
    let said = subst (λ (s : ScriptLine). SaysLine (Ok s) c.args.nodes.now c.args.line.now) c.in-Ok-Nothing.field-0-is c.in-Ok-Nothing.ensures in
    (before, ap (lines_behind before) (said c.args.shapes.now before), stands)

pub returns-in-Ok-Question : goal.returns-in-Ok-Question
returns-in-Ok-Question c = λ before stands.
    let said = subst (λ (s : ScriptLine). SaysLine (Ok s) c.args.nodes.now c.args.line.now) c.in-Ok-Question.field-0-is c.in-Ok-Question.ensures in
    (before, ap (lines_behind before) (said c.args.shapes.now before), stands)

pub judge_event-requires-clause-shape : goal.judge_event-requires-clause-shape
judge_event-requires-clause-shape c =
    let said = subst (λ (s : ScriptLine). SaysLine (Ok s) c.args.nodes.now c.args.line.now) c.in-Ok-Event.field-0-is c.in-Ok-Event.ensures in
    omega (arith, said.within, shapes_count c.args.nodes.now c.args.shapes.now c.requires.types)

pub judge_event-requires-clause-guard : goal.judge_event-requires-clause-guard
judge_event-requires-clause-guard c =
    let said = subst (λ (s : ScriptLine). SaysLine (Ok s) c.args.nodes.now c.args.line.now) c.in-Ok-Event.field-0-is c.in-Ok-Event.ensures in
    let stands = c.requires.stands in
    omega (arith, said.within, stands.1.guards_count)

pub returns-in-Ok-Event : goal.returns-in-Ok-Event
returns-in-Ok-Event c = λ before stands.
    let nodes = c.args.nodes.now in
    let said = subst (λ (s : ScriptLine). SaysLine (Ok s) c.args.nodes.now c.args.line.now) c.in-Ok-Event.field-0-is c.in-Ok-Event.ensures in
    subst (JudgesScriptLine c.judge_event.result nodes c.judge_event.new.guards.items) (sym (ap (lines_behind before) (said.steps c.args.shapes.now before) ∙ accepted_behind before _)) (c.judge_event.ensures nodes before stands said.within)

pub returns-in-Err : goal.returns-in-Err
returns-in-Err c = λ before stands. ap (lines_behind before) (c.in-Err.ensures c.args.shapes.now before)
