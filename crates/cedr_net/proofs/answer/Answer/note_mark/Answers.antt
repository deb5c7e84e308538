use Rattle.std.proofs.Common.{◌-◌, refl, arith}
use Rattle.cedr_net.proofs.AnswerLemmas.{mark_noted}
use Rattle.cedr_net.proofs.answer.Answer.note_mark.Goals as goal

pub returns-clause-noted : goal.returns-clause-noted
returns-clause-noted c = λ given a may.
    let mark = c.args.mark in
    mark_noted c.args.self.now _ given mark (mark - 1) a may (let later = may.1.0 in omega arith) refl refl c.in_ok-take_ended.ensures.taken c.in_ok-take_ended.ensures.left
