use Rattle.std.proofs.Common.{ℕ, sym, subst}
use Rattle.std.specs.Result.{OnOk}
use Rattle.cedr_table.specs.Operators.{CanTake}
use Rattle.op_except.specs.Answered.{ExceptAnswers}
use Rattle.op_except.proofs.PortAnswers.{second_port}
use Rattle.op_except.proofs.except.Except.answer.Goals as goal

pub answer_left-requires : goal.answer_left-requires
answer_left-requires c = (c.requires.0, c.requires.1, c.requires.2, subst (λ (port : ℕ). CanTake c.requires.0 c.requires.1 port c.args.change) c.if-port-eq0.true c.requires.3)

pub answer_right-requires : goal.answer_right-requires
answer_right-requires c = (c.requires.0, c.requires.1, c.requires.2, subst (λ (port : ℕ). CanTake c.requires.0 c.requires.1 port c.args.change) (second_port c.requires.0 c.requires.1 c.args.port c.args.change c.requires.2.kept.table c.if-port-eq0.false c.requires.3) c.requires.3)

pub returns-then-port-eq0-clause-ok : goal.returns-then-port-eq0-clause-ok
returns-then-port-eq0-clause-ok c =
    subst (λ (port : ℕ). OnOk c.answer_left.result (ExceptAnswers c.args.self.now c.answer_left.new.self port c.args.change c.args.out.now.items c.answer_left.new.out.items)) (sym c.if-port-eq0.true) c.answer_left.ensures.ok

pub returns-else-port-eq0-clause-ok : goal.returns-else-port-eq0-clause-ok
returns-else-port-eq0-clause-ok c =
    subst (λ (port : ℕ). OnOk c.answer_right.result (ExceptAnswers c.args.self.now c.answer_right.new.self port c.args.change c.args.out.now.items c.answer_right.new.out.items))
    (sym (second_port c.requires.0 c.requires.1 c.args.port c.args.change c.requires.2.kept.table c.if-port-eq0.false c.requires.3)) c.answer_right.ensures.ok
