use Rattle.std.proofs.Common.{List, sym, subst}
use Rattle.std.proofs.lemmas.Result.{on_ok_weaker}
use Rattle.pat_state.proofs.EndlessLemmas.{stands_still, stands_has, left_adds, left_withdraws}
use Rattle.cedr_expr.specs.declared.test.Test.{Test}
use Rattle.pat_seq.specs.Keeping.{rows_in, AreKept}
use Rattle.pat_seq.proofs.RepairLemmas.{step_stands, row_comes, row_goes, row_stays}
use Rattle.pat_seq.proofs.sequence.SequenceOperator.apply.Goals as goal

pub answer-requires-in-Cut-clause-there : goal.answer-requires-in-Cut-clause-there
answer-requires-in-Cut-clause-there c =
    let op = c.args.self.now in
    stands_has op.scope (rows_in op.kept) c.requires.0 c.requires.1 c.args.port c.requires.2.kept_stand c.args.change
    (left_withdraws op.scope (rows_in op.kept) c.requires.0 c.requires.1 c.args.port c.requires.2.kept_stand c.args.change c.requires.3 c.in-Cut.row c.in-Cut.end c.requires.2.kept_stand.range.scope_is.least c.in-Cut.is c.if-row-end.false)

pub returns-then-row-end-clause-stands : goal.returns-then-row-end-clause-stands
returns-then-row-end-clause-stands c = λ tables marks after stands can moved.
    record {
      kept_stand = stands_still c.args.self.now.scope (rows_in c.args.self.now.kept) tables marks c.args.port stands.kept_stand c.args.change can c.in-Cut.row c.in-Cut.end after c.in-Cut.is c.if-row-end.true moved;
      tags = stands.tags;
    }

pub returns-then-row-end-clause-repairs : goal.returns-then-row-end-clause-repairs
returns-then-row-end-clause-repairs c = λ tables marks after stands can moved.
    row_stays c.args.self.now.scope c.args.self.now.tests tables marks c.args.port c.args.change c.in-Cut.row c.in-Cut.end after c.args.out.now.items c.in-Cut.is c.if-row-end.true can moved

pub returns-in-Add-clause-stands : goal.returns-in-Add-clause-stands
returns-in-Add-clause-stands c = on_ok_weaker c.answer.result
    (λ answered tables marks after stands can moved. record {
      kept_stand = step_stands c.args.self.now.scope c.answer.new.self.scope (rows_in c.args.self.now.kept) (rows_in c.answer.new.self.kept) tables marks c.args.port c.args.change after c.answer.ensures.scope stands.kept_stand
          (left_adds c.args.self.now.scope (rows_in c.args.self.now.kept) tables marks c.args.port stands.kept_stand c.args.change can c.in-Add.row c.in-Add.is) moved answered.0.kept_step;
      tags = subst (λ (tests : List Test). AreKept tests c.answer.new.self.kept) (sym c.answer.ensures.tests) answered.1;
    })
    c.answer.ensures.ok

pub returns-in-Add-clause-repairs : goal.returns-in-Add-clause-repairs
returns-in-Add-clause-repairs c = on_ok_weaker c.answer.result
    (λ answered tables marks after stands can moved. row_comes c.args.self.now.scope c.args.self.now.tests (rows_in c.args.self.now.kept) (rows_in c.answer.new.self.kept) tables marks c.args.port c.args.change c.in-Add.row after c.args.out.now.items c.answer.new.out.items c.in-Add.is stands.kept_stand can moved answered.0)
    c.answer.ensures.ok

pub returns-clause-stands : goal.returns-clause-stands
returns-clause-stands c = on_ok_weaker c.answer-in-Cut.result
    (λ answered tables marks after stands can moved. record {
      kept_stand = step_stands c.args.self.now.scope c.answer-in-Cut.new.self.scope (rows_in c.args.self.now.kept) (rows_in c.answer-in-Cut.new.self.kept) tables marks c.args.port c.args.change after c.answer-in-Cut.ensures.scope stands.kept_stand
          (left_withdraws c.args.self.now.scope (rows_in c.args.self.now.kept) tables marks c.args.port stands.kept_stand c.args.change can c.in-Cut.row c.in-Cut.end stands.kept_stand.range.scope_is.least c.in-Cut.is c.if-row-end.false) moved answered.0.kept_step;
      tags = subst (λ (tests : List Test). AreKept tests c.answer-in-Cut.new.self.kept) (sym c.answer-in-Cut.ensures.tests) answered.1;
    })
    c.answer-in-Cut.ensures.ok

pub returns-clause-repairs : goal.returns-clause-repairs
returns-clause-repairs c = on_ok_weaker c.answer-in-Cut.result
    (λ answered tables marks after stands can moved. row_goes c.args.self.now.scope c.args.self.now.tests (rows_in c.args.self.now.kept) (rows_in c.answer-in-Cut.new.self.kept) tables marks c.args.port c.args.change c.in-Cut.row c.in-Cut.end after c.args.out.now.items c.answer-in-Cut.new.out.items c.in-Cut.is c.if-row-end.false stands.kept_stand can moved answered.0)
    c.answer-in-Cut.ensures.ok
