use Rattle.std.proofs.Common.{rules}
use Rattle.cedr_net.proofs.AnswerLemmas.{change_noted}
use Rattle.cedr_net.proofs.answer.Answer.note_change.Goals as goal

pub returns-clause-noted : goal.returns-clause-noted
returns-clause-noted c = λ given a may. change_noted c.args.self.now _ given c.args.change a may (search rules) (search rules) (search rules) (search rules)
