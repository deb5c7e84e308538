use Rattle.std.proofs.Common.{◌++◌, ◌∷◌, ◌∙◌, ◌||◌, refl, [], sym, ap, subst, List, append_assoc, arith}
use Rattle.std.proofs.lemmas.Result.{on_ok_weaker}
use Rattle.cedr_base.specs.declared.change.Message.{Message}
use Rattle.cedr_table.specs.Operators.{Meaning}
use Rattle.node_laws.specs.Lists.{with_more}
use Rattle.node_laws.specs.Lawful.{passes_of}
use Rattle.op_driver.specs.Driving.{Answers}
use Rattle.cedr_node.specs.Standing.{levels_of, end_of_ports, breaking, StandsBetween, HoldsAtFronts}
use Rattle.cedr_node.proofs.PortLists.{all_length}
use Rattle.cedr_node.proofs.Takes.{count_fits, broken_now, takes_broken, passes_on, takes_whole, takes_holds}
use Rattle.cedr_node.proofs.aligned.Aligned.answer_whole.Goals as goal

pub take_on-requires : goal.take_on-requires
take_on-requires g c = let e = c.requires.3.port_is in omega (arith, all_length c.args.self.now.ports.items c.requires.0 c.requires.2.ports_stand)

pub count_down-self-requires : goal.count_down-self-requires
count_down-self-requires g c = count_fits c.closes-closed.result c.args.self.now.waiting c.requires.0 c.args.port c.args.message c.requires.3 c.requires.2.waiting_is c.closes-closed.ensures

pub returns-then-self-clause-taken : goal.returns-then-self-clause-taken
returns-then-self-clause-taken g c = on_ok_weaker c.push_broken.result (λ pushed lists given h may.
    let op = g.O.Operator in
    let me = c.args.self.now in
    let t = c.in_ok-take_on.ensures.taken lists h.ports_stand may in (
      breaking c.count_down-self.result,
      pushed,
      takes_broken (op.meaning me.driver.op) (op.stands me.driver.op) me.ports.items c.take_on.new.ports.items me.driver.marks.items me.driver.sent me.waiting c.count_down-self.result me.broken (me.broken || c.breaks-broke.result) c.closes-closed.result c.breaks-broke.result lists given
          c.args.port c.args.message c.take_on.new.passed.items h may t c.closes-closed.ensures c.breaks-broke.ensures c.count_down-self.ensures refl c.if-self.true,
    )) c.push_broken.ensures.ok

pub take-requires : goal.take-requires
take-requires g c =
    let op = g.O.Operator in
    let me = c.args.self.now in
    let lists = c.requires.0 in
    let given = c.requires.1 in
    let h = c.requires.2 in
    let may = c.requires.3 in
    let t = c.in_ok-take_on.ensures.taken lists h.ports_stand may in
    let on = passes_on (op.meaning me.driver.op) (op.stands me.driver.op) me.ports.items c.take_on.new.ports.items me.driver.marks.items me.driver.sent me.waiting c.count_down-self.result me.broken (me.broken || c.breaks-broke.result) c.closes-closed.result c.breaks-broke.result lists given
    c.args.port c.args.message c.take_on.new.passed.items h may t c.closes-closed.ensures c.breaks-broke.ensures c.count_down-self.ensures refl c.if-self.false in
    (passes_of (levels_of me.ports.items) lists, given, on.0, on.1, on.2)

pub returns-clause-taken : goal.returns-clause-taken
returns-clause-taken g c = on_ok_weaker c.push_end.result (λ pushed lists given h may.
    let op = g.O.Operator in
    let me = c.args.self.now in
    let new = c.take.new.self in
    let t = c.in_ok-take_on.ensures.taken lists h.ports_stand may in
    let passes = passes_of (levels_of me.ports.items) lists in
    let on = passes_on (op.meaning me.driver.op) (op.stands me.driver.op) me.ports.items c.take_on.new.ports.items me.driver.marks.items me.driver.sent me.waiting c.count_down-self.result me.broken (me.broken || c.breaks-broke.result) c.closes-closed.result c.breaks-broke.result lists given
    c.args.port c.args.message c.take_on.new.passed.items h may t c.closes-closed.ensures c.breaks-broke.ensures c.count_down-self.ensures refl c.if-self.false in
    let e = c.in_ok-take.ensures in
    let a : Answers (op.meaning me.driver.op) (op.stands new.op) (op.held new.op) new.marks.items me.driver.sent new.sent (passes_of (levels_of me.ports.items) lists) c.args.port c.take_on.new.passed.items given c.args.out.now.items c.take.new.out.items = e.answers passes given on.0 on.1 on.2 in (
      a.gained ++ end_of_ports c.count_down-self.result,
      pushed ∙ (ap (λ (ms : List Message). ms ++ end_of_ports c.count_down-self.result) a.appended ∙ append_assoc c.args.out.now.items a.gained (end_of_ports c.count_down-self.result)),
      subst (λ (k : Meaning). StandsBetween k (op.stands new.op) c.take_on.new.ports.items new.marks.items new.sent c.count_down-self.result (me.broken || c.breaks-broke.result) (with_more lists c.args.port (c.args.message ∷ [])) (given ++ (a.gained ++ end_of_ports c.count_down-self.result))) (sym c.take.ensures.meaning)
          (takes_whole (op.meaning me.driver.op) (op.stands me.driver.op) me.ports.items c.take_on.new.ports.items me.driver.marks.items me.driver.sent me.waiting c.count_down-self.result me.broken (me.broken || c.breaks-broke.result) c.closes-closed.result c.breaks-broke.result lists given
          c.args.port c.args.message c.take_on.new.passed.items h may t c.closes-closed.ensures c.breaks-broke.ensures c.count_down-self.ensures refl c.if-self.false
          (op.stands new.op) (op.held new.op) new.marks.items new.sent c.args.out.now.items c.take.new.out.items a),
    )) c.push_end.ensures.ok

pub returns-then-self-clause-holds : goal.returns-then-self-clause-holds
returns-then-self-clause-holds g c = on_ok_weaker c.push_broken.result (λ pushed lists given h may none.
    let op = g.O.Operator in
    let me = c.args.self.now in
    let t = c.in_ok-take_on.ensures.taken lists h.ports_stand may in
    let some = broken_now (op.meaning me.driver.op) (op.stands me.driver.op) me.ports.items c.take_on.new.ports.items me.driver.marks.items me.driver.sent me.waiting c.count_down-self.result me.broken (me.broken || c.breaks-broke.result) c.closes-closed.result c.breaks-broke.result lists given
    c.args.port c.args.message c.take_on.new.passed.items h may t c.closes-closed.ensures c.breaks-broke.ensures c.count_down-self.ensures refl in
    absurd (let wrong = sym c.if-self.true ∙ (some ∙ none) in cc)) c.push_broken.ensures.ok

pub returns-clause-holds : goal.returns-clause-holds
returns-clause-holds g c = on_ok_weaker c.push_end.result (λ pushed lists given h may none.
    let op = g.O.Operator in
    let me = c.args.self.now in
    let new = c.take.new.self in
    let t = c.in_ok-take_on.ensures.taken lists h.ports_stand may in
    let passes = passes_of (levels_of me.ports.items) lists in
    let on = passes_on (op.meaning me.driver.op) (op.stands me.driver.op) me.ports.items c.take_on.new.ports.items me.driver.marks.items me.driver.sent me.waiting c.count_down-self.result me.broken (me.broken || c.breaks-broke.result) c.closes-closed.result c.breaks-broke.result lists given
    c.args.port c.args.message c.take_on.new.passed.items h may t c.closes-closed.ensures c.breaks-broke.ensures c.count_down-self.ensures refl c.if-self.false in
    let e = c.in_ok-take.ensures in
    let a : Answers (op.meaning me.driver.op) (op.stands new.op) (op.held new.op) new.marks.items me.driver.sent new.sent (passes_of (levels_of me.ports.items) lists) c.args.port c.take_on.new.passed.items given c.args.out.now.items c.take.new.out.items = e.answers passes given on.0 on.1 on.2 in
    subst (λ (k : Meaning). HoldsAtFronts k (levels_of c.take_on.new.ports.items) (with_more lists c.args.port (c.args.message ∷ [])) (op.held new.op)) (sym c.take.ensures.meaning)
    (takes_holds (op.meaning me.driver.op) (op.stands me.driver.op) me.ports.items c.take_on.new.ports.items me.driver.marks.items me.driver.sent me.waiting c.count_down-self.result me.broken (me.broken || c.breaks-broke.result) c.closes-closed.result c.breaks-broke.result lists given
    c.args.port c.args.message c.take_on.new.passed.items h may t c.closes-closed.ensures c.breaks-broke.ensures c.count_down-self.ensures refl c.if-self.false
    (op.stands new.op) (op.held new.op) new.marks.items new.sent c.args.out.now.items c.take.new.out.items a)) c.push_end.ensures.ok
