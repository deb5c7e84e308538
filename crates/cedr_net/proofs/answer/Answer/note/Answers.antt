use Rattle.std.proofs.Common.{◌∷◌, [], ap}
use Rattle.cedr_base.specs.declared.change.Message.{Message}
use Rattle.cedr_base.specs.Messages.{changes_of, mark_of}
use Rattle.cedr_net.proofs.AnswerLemmas.{other_noted}
use Rattle.cedr_net.proofs.answer.Answer.note.Goals as goal

pub returns-in-End-clause-noted : goal.returns-in-End-clause-noted
returns-in-End-clause-noted c = λ given a may. other_noted c.args.self.now given c.args.message a (ap (λ (m : Message). changes_of (m ∷ [])) c.in-End.is) (ap (λ (m : Message). mark_of (m ∷ [])) c.in-End.is)

pub returns-in-Broken-clause-noted : goal.returns-in-Broken-clause-noted
returns-in-Broken-clause-noted c = λ given a may. other_noted c.args.self.now given c.args.message a (ap (λ (m : Message). changes_of (m ∷ [])) c.in-Broken.is) (ap (λ (m : Message). mark_of (m ∷ [])) c.in-Broken.is)
