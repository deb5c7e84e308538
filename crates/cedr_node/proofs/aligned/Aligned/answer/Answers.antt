use Rattle.std.proofs.Common.{◌++◌, ◌∷◌, [], sym, subst, arith}
use Rattle.std.proofs.lemmas.Result.{on_ok_weaker}
use Rattle.cedr_table.specs.Operators.{Meaning}
use Rattle.node_laws.specs.Lists.{list_at, with_more}
use Rattle.node_laws.specs.Lawful.{passes_of}
use Rattle.op_driver.specs.Driving.{Answers}
use Rattle.cedr_node.specs.Standing.{levels_of, IsTakenOn, StandsBetween, HoldsAtFronts}
use Rattle.cedr_node.proofs.PortLists.{all_length}
use Rattle.cedr_node.proofs.Takes.{through_comes, through_whole, through_holds}
use Rattle.cedr_node.proofs.aligned.Aligned.answer.Goals as goal

pub go_through-requires : goal.go_through-requires
go_through-requires g c = let e = c.requires.3.port_is in omega (arith, all_length c.args.self.now.ports.items c.requires.0 c.requires.2.ports_stand)

pub take_one-requires : goal.take_one-requires
take_one-requires g c =
    let op = g.O.Operator in
    let me = c.args.self.now in
    let lists = c.requires.0 in
    let given = c.requires.1 in
    let went = c.in_ok-go_through.ensures in
    let t : IsTakenOn me.ports.items c.go_through.new.ports.items c.args.port (list_at lists c.args.port) c.args.message (c.args.message ∷ []) = went.through c.if-branch.true lists c.requires.2.ports_stand c.requires.3 in
    let comes = through_comes (op.meaning me.driver.op) (op.stands me.driver.op) me.ports.items c.go_through.new.ports.items me.driver.marks.items me.driver.sent me.waiting me.broken lists given c.args.port c.args.message c.requires.2 c.requires.3 t (went.goes_on c.if-branch.true) c.if-self.false in
    (passes_of (levels_of me.ports.items) lists, given, comes.0, comes.1)

pub returns-then-branch-clause-taken : goal.returns-then-branch-clause-taken
returns-then-branch-clause-taken g c = on_ok_weaker c.take_one.result (λ answers lists given h may.
    let op = g.O.Operator in
    let me = c.args.self.now in
    let new = c.take_one.new.self in
    let passes = passes_of (levels_of me.ports.items) lists in
    let went = c.in_ok-go_through.ensures in
    let t : IsTakenOn me.ports.items c.go_through.new.ports.items c.args.port (list_at lists c.args.port) c.args.message (c.args.message ∷ []) = went.through c.if-branch.true lists h.ports_stand may in
    let comes = through_comes (op.meaning me.driver.op) (op.stands me.driver.op) me.ports.items c.go_through.new.ports.items me.driver.marks.items me.driver.sent me.waiting me.broken lists given c.args.port c.args.message h may t (went.goes_on c.if-branch.true) c.if-self.false in
    let a : Answers (op.meaning me.driver.op) (op.stands new.op) (op.held new.op) new.marks.items me.driver.sent new.sent passes c.args.port (c.args.message ∷ []) given c.args.out.now.items c.take_one.new.out.items = answers passes given comes.0 comes.1 in (
      a.gained,
      a.appended,
      subst (λ (k : Meaning). StandsBetween k (op.stands new.op) c.go_through.new.ports.items new.marks.items new.sent me.waiting me.broken (with_more lists c.args.port (c.args.message ∷ [])) (given ++ a.gained)) (sym c.take_one.ensures.meaning)
          (through_whole (op.meaning me.driver.op) (op.stands me.driver.op) me.ports.items c.go_through.new.ports.items me.driver.marks.items me.driver.sent me.waiting me.broken lists given c.args.port c.args.message h may t (went.goes_on c.if-branch.true) c.if-self.false (op.stands new.op) (op.held new.op) new.marks.items new.sent c.args.out.now.items c.take_one.new.out.items a),
    )) c.take_one.ensures.answers

pub returns-then-branch-clause-holds : goal.returns-then-branch-clause-holds
returns-then-branch-clause-holds g c = on_ok_weaker c.take_one.result (λ answers lists given h may none.
    let op = g.O.Operator in
    let me = c.args.self.now in
    let new = c.take_one.new.self in
    let passes = passes_of (levels_of me.ports.items) lists in
    let went = c.in_ok-go_through.ensures in
    let t : IsTakenOn me.ports.items c.go_through.new.ports.items c.args.port (list_at lists c.args.port) c.args.message (c.args.message ∷ []) = went.through c.if-branch.true lists h.ports_stand may in
    let comes = through_comes (op.meaning me.driver.op) (op.stands me.driver.op) me.ports.items c.go_through.new.ports.items me.driver.marks.items me.driver.sent me.waiting me.broken lists given c.args.port c.args.message h may t (went.goes_on c.if-branch.true) c.if-self.false in
    let a : Answers (op.meaning me.driver.op) (op.stands new.op) (op.held new.op) new.marks.items me.driver.sent new.sent passes c.args.port (c.args.message ∷ []) given c.args.out.now.items c.take_one.new.out.items = answers passes given comes.0 comes.1 in
    subst (λ (k : Meaning). HoldsAtFronts k (levels_of c.go_through.new.ports.items) (with_more lists c.args.port (c.args.message ∷ [])) (op.held new.op)) (sym c.take_one.ensures.meaning)
    (through_holds (op.meaning me.driver.op) (op.stands me.driver.op) me.ports.items c.go_through.new.ports.items me.driver.marks.items me.driver.sent me.waiting me.broken lists given c.args.port c.args.message h may t (went.goes_on c.if-branch.true) c.if-self.false (op.stands new.op) (op.held new.op) new.marks.items new.sent c.args.out.now.items c.take_one.new.out.items a)) c.take_one.ensures.answers
