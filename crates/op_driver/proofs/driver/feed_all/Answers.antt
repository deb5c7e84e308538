use Rattle.std.proofs.Common.{◌++◌, ◌∷◌, [], ◌∙◌, sym, subst, refl, List}
use Rattle.std.proofs.Math.Seq.{take-length}
use Rattle.std.proofs.lemmas.List.{map-id}
use Rattle.std.proofs.lemmas.Iterator.Consumers.{YieldsList-turn, YieldsList-so_far, YieldsList-end}
use Rattle.cedr_base.specs.declared.change.Message.{Message}
use Rattle.node_laws.specs.Lists.{with_more}
use Rattle.op_driver.specs.Driving.{IsFed}
use Rattle.op_driver.proofs.DrainLemmas.{drain_yields}
use Rattle.op_driver.proofs.DriveLemmas.{kept_along, fed_none, fed_more, works_as, may_take_next}
use Rattle.op_driver.proofs.driver.feed_all.Goals as goal

pub loop-message-init : goal.loop-message-init
loop-message-init g c = record {
  fed = λ lists given w port_is legal. fed_none (g.O.Operator.meaning c.args.op.now) (g.O.Operator.stands c.args.op.now) c.args.marks.now.items lists c.args.port given c.args.out.now.items w;
  meaning = refl;
  kept = take-length c.args.out.now.items;
}

pub feed_one-requires : goal.feed_one-requires
feed_one-requires g c =
    let op = g.O.Operator in
    let old = c.args.op.now in
    let l = c.loop-message in
    let taken = c.args.taken.now.items in
    let yields = drain_yields c.args.taken.now c.into_iter-message-iterator.ensures.into_iter_gives c.drain-message-items.ensures.rest in
    let so_far = sym (map-id l.yielded) ∙ YieldsList-so_far yields l.yielded l.message-iterator l.yielded_by in
    let next = YieldsList-turn yields l.yielded l.message-iterator l.yielded_by c.next.result c.next.new.self c.in-Some.message c.in-Some.is c.next.ensures.steps in
    let f = l.invariant.fed c.requires.0 c.requires.1 c.requires.2 c.requires.3 c.requires.4 in (
      with_more c.requires.0 c.args.port l.yielded,
      c.requires.1 ++ f.gained,
      works_as (op.meaning old) (op.meaning l.op) (op.stands l.op) l.marks.items (with_more c.requires.0 c.args.port l.yielded) (c.requires.1 ++ f.gained) l.invariant.meaning f.works,
      may_take_next c.requires.0 c.args.port taken l.yielded c.in-Some.message c.requires.3 c.requires.4 so_far next,
    )

pub loop-message-preserved : goal.loop-message-preserved
loop-message-preserved g c =
    let op = g.O.Operator in
    let old = c.args.op.now in
    let l = c.loop-message in
    let taken = c.args.taken.now.items in
    let port = c.args.port in
    let m = c.in-Some.message in
    let k = c.in_ok-feed_one.ensures in
    let yields = drain_yields c.args.taken.now c.into_iter-message-iterator.ensures.into_iter_gives c.drain-message-items.ensures.rest in
    let so_far = sym (map-id l.yielded) ∙ YieldsList-so_far yields l.yielded l.message-iterator l.yielded_by in
    let next = YieldsList-turn yields l.yielded l.message-iterator l.yielded_by c.next.result c.next.new.self c.in-Some.message c.in-Some.is c.next.ensures.steps in
    record {
      fed = λ lists given w port_is legal.
          let f = l.invariant.fed lists given w port_is legal in
          let w' = works_as (op.meaning old) (op.meaning l.op) (op.stands l.op) l.marks.items (with_more lists port l.yielded) (given ++ f.gained) l.invariant.meaning f.works in
          fed_more (op.meaning old) (op.meaning l.op) (op.stands l.op) (op.stands c.feed_one.new.op) l.marks.items c.feed_one.new.marks.items lists port l.yielded (m ∷ []) given c.args.out.now.items l.out.items c.feed_one.new.out.items
          l.invariant.meaning f
          (k.fed (with_more lists port l.yielded) (given ++ f.gained) w' (may_take_next lists port taken l.yielded m port_is legal so_far next));
      meaning = k.meaning ∙ l.invariant.meaning;
      kept = kept_along c.args.out.now.items l.out.items c.feed_one.new.out.items l.invariant.kept c.feed_one.ensures.kept;
    }

pub returns-clause-fed : goal.returns-clause-fed
returns-clause-fed g c = λ lists given w port_is legal.
    let op = g.O.Operator in
    let old = c.args.op.now in
    let l = c.loop-message in
    let yields = drain_yields c.args.taken.now c.into_iter-message-iterator.ensures.into_iter_gives c.drain-message-items.ensures.rest in
    let all = YieldsList-end yields l.yielded l.message-iterator l.yielded_by c.next.result c.next.new.self c.in-None.is c.next.ensures.steps in
    subst (λ (xs : List Message). IsFed (op.meaning old) (op.stands l.op) l.marks.items lists c.args.port xs given c.args.out.now.items l.out.items) (sym (map-id l.yielded) ∙ all.0) (l.invariant.fed lists given w port_is legal)
