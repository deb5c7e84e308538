use Rattle.std.proofs.Common.{List, ℕ, length, sym, subst}
use Rattle.std.proofs.lemmas.Result.{on_ok_weaker}
use Rattle.cedr_expr.specs.declared.test.Test.{Test}
use Rattle.pat_state.proofs.EndlessLemmas.{stands_still, stands_has, left_adds, left_withdraws}
use Rattle.pat_atleast.specs.Keeping.{bags_in, HaveTags, SuitsNumber}
use Rattle.pat_atleast.proofs.KeptLemmas.{orders_fit}
use Rattle.pat_atleast.proofs.RepairLemmas.{step_stands, row_comes, row_goes, row_stays, orders_after}
use Rattle.pat_atleast.proofs.at_least.AtLeastOperator.apply.Goals as goal

pub answer-requires-in-Cut-clause-orders : goal.answer-requires-in-Cut-clause-orders
answer-requires-in-Cut-clause-orders c = orders_fit c.args.self.now.number c.args.self.now.orders.items c.args.self.now.kept c.requires.2.suits c.requires.2.orders_are

pub answer-requires-in-Cut-clause-there : goal.answer-requires-in-Cut-clause-there
answer-requires-in-Cut-clause-there c =
    let op = c.args.self.now in
    stands_has op.scope (bags_in op.kept) c.requires.0 c.requires.1 c.args.port c.requires.2.kept_stand c.args.change
    (left_withdraws op.scope (bags_in op.kept) c.requires.0 c.requires.1 c.args.port c.requires.2.kept_stand c.args.change c.requires.3 c.in-Cut.row c.in-Cut.end c.requires.2.kept_stand.range.scope_is.least c.in-Cut.is c.if-row-end.false)

pub returns-then-row-end-clause-stands : goal.returns-then-row-end-clause-stands
returns-then-row-end-clause-stands c = λ tables marks after stands can moved.
    record {
      kept_stand = stands_still c.args.self.now.scope (bags_in c.args.self.now.kept) tables marks c.args.port stands.kept_stand c.args.change can c.in-Cut.row c.in-Cut.end after c.in-Cut.is c.if-row-end.true moved;
      orders_are = stands.orders_are;
      tags = stands.tags;
      suits = stands.suits;
    }

pub returns-then-row-end-clause-repairs : goal.returns-then-row-end-clause-repairs
returns-then-row-end-clause-repairs c = λ tables marks after stands can moved.
    row_stays c.args.self.now.number c.args.self.now.scope c.args.self.now.tests tables marks c.args.port c.args.change c.in-Cut.row c.in-Cut.end after c.args.out.now.items c.in-Cut.is c.if-row-end.true moved

pub returns-in-Add-clause-stands : goal.returns-in-Add-clause-stands
returns-in-Add-clause-stands c = on_ok_weaker c.answer.result
    (λ answered tables marks after stands can moved. record {
      kept_stand = step_stands c.args.self.now.number c.answer.new.self.number c.args.self.now.scope c.answer.new.self.scope (bags_in c.args.self.now.kept) (bags_in c.answer.new.self.kept) tables marks c.args.port c.args.change after c.answer.ensures.number c.answer.ensures.scope stands.kept_stand
          (left_adds c.args.self.now.scope (bags_in c.args.self.now.kept) tables marks c.args.port stands.kept_stand c.args.change can c.in-Add.row c.in-Add.is) moved answered.0.kept_step;
      orders_are = orders_after c.args.self.now.number c.answer.new.self.number c.args.self.now.orders.items c.answer.new.self.orders.items (length (bags_in c.args.self.now.kept)) (length (bags_in c.answer.new.self.kept)) c.answer.ensures.number c.answer.ensures.orders c.answer.ensures.ports stands.orders_are;
      tags = subst (λ (tests : List Test). HaveTags tests c.answer.new.self.kept) (sym c.answer.ensures.tests) answered.1;
      suits = subst (λ (n : ℕ). SuitsNumber n c.answer.new.self.kept) (sym c.answer.ensures.number) (c.answer.ensures.suits c.args.self.now.number stands.suits);
    })
    c.answer.ensures.ok

pub returns-in-Add-clause-repairs : goal.returns-in-Add-clause-repairs
returns-in-Add-clause-repairs c = on_ok_weaker c.answer.result
    (λ answered tables marks after stands can moved. row_comes c.args.self.now.number c.args.self.now.scope c.args.self.now.tests c.args.self.now.orders.items (bags_in c.args.self.now.kept) tables marks c.args.port c.args.change c.in-Add.row stands.kept_stand stands.orders_are can (bags_in c.answer.new.self.kept) after c.args.out.now.items c.answer.new.out.items c.in-Add.is moved answered.0)
    c.answer.ensures.ok

pub returns-clause-stands : goal.returns-clause-stands
returns-clause-stands c = on_ok_weaker c.answer-in-Cut.result
    (λ answered tables marks after stands can moved. record {
      kept_stand = step_stands c.args.self.now.number c.answer-in-Cut.new.self.number c.args.self.now.scope c.answer-in-Cut.new.self.scope (bags_in c.args.self.now.kept) (bags_in c.answer-in-Cut.new.self.kept) tables marks c.args.port c.args.change after c.answer-in-Cut.ensures.number c.answer-in-Cut.ensures.scope stands.kept_stand
          (left_withdraws c.args.self.now.scope (bags_in c.args.self.now.kept) tables marks c.args.port stands.kept_stand c.args.change can c.in-Cut.row c.in-Cut.end stands.kept_stand.range.scope_is.least c.in-Cut.is c.if-row-end.false) moved answered.0.kept_step;
      orders_are = orders_after c.args.self.now.number c.answer-in-Cut.new.self.number c.args.self.now.orders.items c.answer-in-Cut.new.self.orders.items (length (bags_in c.args.self.now.kept)) (length (bags_in c.answer-in-Cut.new.self.kept)) c.answer-in-Cut.ensures.number c.answer-in-Cut.ensures.orders c.answer-in-Cut.ensures.ports stands.orders_are;
      tags = subst (λ (tests : List Test). HaveTags tests c.answer-in-Cut.new.self.kept) (sym c.answer-in-Cut.ensures.tests) answered.1;
      suits = subst (λ (n : ℕ). SuitsNumber n c.answer-in-Cut.new.self.kept) (sym c.answer-in-Cut.ensures.number) (c.answer-in-Cut.ensures.suits c.args.self.now.number stands.suits);
    })
    c.answer-in-Cut.ensures.ok

pub returns-clause-repairs : goal.returns-clause-repairs
returns-clause-repairs c = on_ok_weaker c.answer-in-Cut.result
    (λ answered tables marks after stands can moved. row_goes c.args.self.now.number c.args.self.now.scope c.args.self.now.tests c.args.self.now.orders.items (bags_in c.args.self.now.kept) tables marks c.args.port c.args.change c.in-Cut.row stands.kept_stand stands.orders_are can (bags_in c.answer-in-Cut.new.self.kept) c.in-Cut.end after c.args.out.now.items c.answer-in-Cut.new.out.items c.in-Cut.is c.if-row-end.false moved answered.0)
    c.answer-in-Cut.ensures.ok

pub answer-requires-clause-orders : goal.answer-requires-clause-orders
answer-requires-clause-orders c = orders_fit c.args.self.now.number c.args.self.now.orders.items c.args.self.now.kept c.requires.2.suits c.requires.2.orders_are
