use Rattle.std.proofs.Common.{sym, refl}
use Rattle.std.proofs.lemmas.Result.{on_ok_weaker}
use Rattle.cedr_net.proofs.AnswerLemmas.{rows_noted, piece_left}
use Rattle.cedr_net.proofs.answer.Answer.note_all.Goals as goal

pub returns-then-hands_on-clause-noted : goal.returns-then-hands_on-clause-noted
returns-then-hands_on-clause-noted c = λ given a legal. piece_left c.args.self.now _ given c.args.piece.now.items a (sym c.if-hands_on.ensures) refl c.in_ok-append.ensures.items

pub note_rows-requires : goal.note_rows-requires
note_rows-requires c = let r = c.requires in (r.0, r.1.rows (sym c.if-hands_on.ensures), r.2)

pub returns-clause-noted : goal.returns-clause-noted
returns-clause-noted c = on_ok_weaker c.note_rows.result (λ noted given a legal.
    let isnt = sym c.if-hands_on.ensures in
    rows_noted c.args.self.now c.note_rows.new.self given c.args.piece.now.items isnt c.note_rows.ensures.keeps (noted given (a.rows isnt) legal))
    c.note_rows.ensures.noted
