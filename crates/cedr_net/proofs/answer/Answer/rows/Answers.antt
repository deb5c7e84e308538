use Rattle.std.proofs.Common.{rules}
use Rattle.cedr_net.proofs.AnswerLemmas.{rows_of_answer}
use Rattle.cedr_net.proofs.answer.Answer.rows.Goals as goal

pub returns : goal.returns
returns c = λ given a. rows_of_answer c.args.self.now given _ (a.rows c.requires) (search rules)
