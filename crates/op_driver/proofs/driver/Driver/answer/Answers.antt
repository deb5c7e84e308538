use Rattle.std.proofs.Common.{sym, subst}
use Rattle.std.proofs.lemmas.Result.{on_ok_weaker}
use Rattle.cedr_table.specs.Operators.{Meaning}
use Rattle.op_driver.specs.Driving.{IsFed, Answers}
use Rattle.op_driver.proofs.driver.Driver.answer.Goals as goal

pub close-requires : goal.close-requires
close-requires g c =
    let op = g.O.Operator in
    let lists = c.requires.0 in
    let given = c.requires.1 in
    let fed = c.in_ok-feed.ensures.fed lists given c.requires.2.works c.requires.3 c.requires.4 in (
      lists,
      c.args.port,
      c.args.taken.now.items,
      given,
      c.args.out.now.items,
      subst (λ (k : Meaning). IsFed k (op.stands c.feed.new.op) c.feed.new.marks.items c.requires.0 c.args.port c.args.taken.now.items c.requires.1 c.args.out.now.items c.feed.new.out.items) (sym c.in_ok-feed.ensures.meaning) fed,
    )

pub returns-clause-answers : goal.returns-clause-answers
returns-clause-answers g c = on_ok_weaker c.close.result (λ closed lists given d port_is legal.
    let op = g.O.Operator in
    let same = c.in_ok-feed.ensures.meaning in
    let fed = c.in_ok-feed.ensures.fed lists given d.works port_is legal in
    subst (λ (k : Meaning). Answers k (op.stands c.close.new.self.op) (op.held c.close.new.self.op) c.close.new.self.marks.items c.args.self.now.sent c.close.new.self.sent lists c.args.port c.args.taken.now.items given c.args.out.now.items c.close.new.out.items) same
    (closed lists c.args.port c.args.taken.now.items given c.args.out.now.items
    (subst (λ (k : Meaning). IsFed k (op.stands c.feed.new.op) c.feed.new.marks.items lists c.args.port c.args.taken.now.items given c.args.out.now.items c.feed.new.out.items) (sym same) fed) d.sent_is)) c.close.ensures.answers

pub returns-clause-taken : goal.returns-clause-taken
returns-clause-taken g c = on_ok_weaker c.close.result (λ _. c.in_ok-feed.ensures.taken) c.close.ensures.answers
