use Rattle.std.proofs.Common.{◌++◌, ◌∷◌, [], sym, subst, arith}
use Rattle.node_laws.specs.Lists.{list_at, with_more}
use Rattle.test_feeding.specs.Came.{CameFor}
use Rattle.test_feeding.specs.declared.came.Came.{Came}
use Rattle.message_cases.proofs.NodeLemmas.{came_at, came_set, may_take}
use Rattle.message_cases.proofs.node.feed.Goals as goal

pub take-requires : goal.take-requires
take-requires c = λ usable. (
  c.requires.lists,
  c.requires.given,
  c.requires.stands,
  may_take c.args.fed.now.came.items c.requires.lists c.args.port c.args.message c.index.result.now c.requires.came_are (omega arith) c.index.ensures (c.may_come.ensures c.if-not-may_come.false),
)

pub returns-in-Ok : goal.returns-in-Ok
returns-in-Ok c =
    let came = c.args.fed.now.came.items in
    let lists = c.requires.lists in
    let may = may_take came lists c.args.port c.args.message c.index.result.now c.requires.came_are (omega arith) c.index.ensures (c.may_come.ensures c.if-not-may_come.false) in
    let next = c.in-Ok.ensures.taken lists c.requires.given c.requires.stands may in
    let stood : CameFor c.index_mut.result.now (list_at lists c.args.port) = subst (λ (one : Came). CameFor one (list_at lists c.args.port)) (sym c.index_mut.ensures.value) (came_at c.args.port came lists c.index_mut.result.now c.requires.came_are (omega arith)) in
    record {
      lists = with_more lists c.args.port (c.args.message ∷ []);
      given = c.requires.given ++ next.0;
      stands = next.2;
      came_are = came_set c.args.port came lists c.note.new.self (list_at lists c.args.port ++ c.args.message ∷ []) c.requires.came_are (c.in_ok-note.ensures (list_at lists c.args.port) stood may.comes);
    }
