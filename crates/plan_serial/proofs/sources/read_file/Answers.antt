use Rattle.std.proofs.Common.{◌∷◌, [], ◌∙◌, subst}
use Rattle.std.specs.Prelude.{IfSome}
use Rattle.plan_serial.specs.Sources.{AnswersFile}
use Rattle.plan_serial.proofs.SourceLemmas.{asked_all}
use Rattle.plan_serial.proofs.sources.read_file.Goals as goal

pub returns-clause-asked : goal.returns-clause-asked
returns-clause-asked g c = asked_all c.read_source-entries.result _ _ (c.args.name.now ∷ []) (c.give_back.ensures.asked ∙ c.in-Ok.ensures.asked)

pub returns-clause-answer : goal.returns-clause-answer
returns-clause-answer g c = subst (λ known. IfSome known (λ all. AnswersFile c.read_source-entries.result c.args.types.now all)) c.in-Ok.ensures.found c.read_source-entries.ensures.answer
