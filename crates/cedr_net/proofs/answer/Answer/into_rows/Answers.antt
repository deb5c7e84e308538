use Rattle.cedr_net.proofs.AnswerLemmas.{rows_of_answer}
use Rattle.cedr_net.proofs.answer.Answer.into_rows.Goals as goal

pub returns : goal.returns
returns c = λ given a. rows_of_answer c.args.self given _ (a.rows c.requires) c.in_ok-take_rest.ensures
