use Rattle.std.proofs.Common.{arith, ◌≡◌, ◌∷◌, [], ◌++◌, ◌<◌, length}
use Rattle.std.proofs.lemmas.Bool.Decides.{nat_tests}
use Rattle.std.proofs.lemmas.Result.{IfOk-weaker}
use Rattle.cedr_script.specs.declared.cutter.CutStep.{CutStep}
use Rattle.cedr_script.specs.Cutting.{answers_left, line_answer, step_answers}
use Rattle.cedr_script.specs.Cutters.{begun_of}
use Rattle.cedr_script.proofs.CutLemmas.{ends_last}
use Rattle.cedr_script.proofs.cutter.LineCutter.finish.Goals as goal

pub returns-clause-answered : goal.returns-clause-answered
returns-clause-answered c =
    let self = c.args.self.now in
    let line = c.end_line.new.line.items in
    let some : 0 < length self.begun.items = grind (arith, nat_tests, self.begun.ok.0, c.if-is_empty.ensures) in
    IfOk-weaker c.end_line.result (λ (step : CutStep). step_answers step line ≡ line_answer (self.begun.items ++ []) ∷ []) (λ (step : CutStep). step_answers step line ≡ answers_left (begun_of self) [])
    (λ step is. ends_last step (begun_of self) line c.if-self.false self.none some is) c.end_line.ensures.answered
