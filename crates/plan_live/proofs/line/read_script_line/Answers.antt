use Rattle.std.proofs.Common.{◌≡◌, ◌==◌, Bool, true, false, List, ℕ, length, Option, None, Some, ap, sym, ◌∙◌, subst}
use Rattle.cedr_text.specs.Lines.{without_return}
use Rattle.plan_live.specs.Scripts.{is_question, source_event}
use Rattle.plan_live.proofs.SaidLemmas.{long_step, question_step, nothing_step, other_step, event_line}
use Rattle.plan_live.proofs.line.read_script_line.Goals as goal

pub returns-then-line-gt-LINE_LIMIT : goal.returns-then-line-gt-LINE_LIMIT
returns-then-line-gt-LINE_LIMIT c = λ shapes before. long_step c.args.nodes.now shapes before c.args.line.now c.if-line-gt-LINE_LIMIT.true

pub returns-then-is_question : goal.returns-then-is_question
returns-then-is_question c = λ shapes before. question_step c.args.nodes.now shapes before c.args.line.now c.if-line-gt-LINE_LIMIT.false (sym (c.if-is_question.ensures ∙ ap is_question c.without_return-line.ensures))

pub returns-then-is_empty : goal.returns-then-is_empty
returns-then-is_empty c = λ shapes before.
    let bare = c.without_return-line.ensures in
    let isnt = sym (c.if-is_question.ensures ∙ ap is_question bare) in
    let none : (length (without_return c.args.line.now) == 0) ≡ true = subst (λ (l : List ℕ). (length l == 0) ≡ true) bare (sym c.if-is_empty.ensures) in
    nothing_step c.args.nodes.now c.args.line.now c.if-line-gt-LINE_LIMIT.false isnt shapes before none

pub returns-in-Some : goal.returns-in-Some
returns-in-Some c =
    let bare = c.without_return-line.ensures in
    let isnt = sym (c.if-is_question.ensures ∙ ap is_question bare) in
    let some : (length (without_return c.args.line.now) == 0) ≡ false = subst (λ (l : List ℕ). (length l == 0) ≡ false) bare (sym c.if-is_empty.ensures) in
    event_line c.args.nodes.now c.args.line.now c.if-line-gt-LINE_LIMIT.false isnt c.in-Some.place c.in-Some.event.now some (ap (source_event c.args.nodes.now) (sym bare) ∙ c.in-Some.ensures)

pub returns-in-None : goal.returns-in-None
returns-in-None c = λ shapes before.
    let bare = c.without_return-line.ensures in
    let isnt = sym (c.if-is_question.ensures ∙ ap is_question bare) in
    let some : (length (without_return c.args.line.now) == 0) ≡ false = subst (λ (l : List ℕ). (length l == 0) ≡ false) bare (sym c.if-is_empty.ensures) in
    other_step c.args.nodes.now c.args.line.now c.if-line-gt-LINE_LIMIT.false isnt shapes before some (ap (source_event c.args.nodes.now) (sym bare) ∙ c.in-None.ensures)
