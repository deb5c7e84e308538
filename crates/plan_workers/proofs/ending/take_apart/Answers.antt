use Rattle.std.proofs.Common.{ap, ◌∙◌, arith, map, rules}
use Rattle.std.proofs.lemmas.Iterator.Adapters.{YieldsList-from_vec}
use Rattle.std.proofs.lemmas.Iterator.Consumers.{YieldsList-turn}
use Rattle.plan_workers.specs.Wents.{part_left, putters_left, ran_left, takers_left}
use Rattle.plan_workers.proofs.ClosingLemmas.{all_yielded}
use Rattle.plan_workers.proofs.ending.take_apart.Goals as goal

pub push_reserved-requires : goal.push_reserved-requires
push_reserved-requires g c =
    let l = c.loop-end in
    let yields = YieldsList-from_vec {s = c.into_iter-end-iterator.result} c.args.ends.items (search rules) (search rules) in
    let next = YieldsList-turn yields l.yielded l.end-iterator l.yielded_by c.next.result c.next.new.self c.in-Some.end c.in-Some.is c.next.ensures.steps in
    omega (arith, next.0)

pub push_reserved-requires-in-loop-end : goal.push_reserved-requires-in-loop-end
push_reserved-requires-in-loop-end g c =
    let l = c.loop-end in
    let yields = YieldsList-from_vec {s = c.into_iter-end-iterator.result} c.args.ends.items (search rules) (search rules) in
    let next = YieldsList-turn yields l.yielded l.end-iterator l.yielded_by c.next.result c.next.new.self c.in-Some.end c.in-Some.is c.next.ensures.steps in
    omega (arith, next.0)

pub push_reserved-requires-in-loop-end-2 : goal.push_reserved-requires-in-loop-end-2
push_reserved-requires-in-loop-end-2 g c =
    let l = c.loop-end in
    let yields = YieldsList-from_vec {s = c.into_iter-end-iterator.result} c.args.ends.items (search rules) (search rules) in
    let next = YieldsList-turn yields l.yielded l.end-iterator l.yielded_by c.next.result c.next.new.self c.in-Some.end c.in-Some.is c.next.ensures.steps in
    omega (arith, next.0)

pub push_reserved-requires-in-loop-end-3 : goal.push_reserved-requires-in-loop-end-3
push_reserved-requires-in-loop-end-3 g c =
    let l = c.loop-end in
    let yields = YieldsList-from_vec {s = c.into_iter-end-iterator.result} c.args.ends.items (search rules) (search rules) in
    let next = YieldsList-turn yields l.yielded l.end-iterator l.yielded_by c.next.result c.next.new.self c.in-Some.end c.in-Some.is c.next.ensures.steps in
    omega (arith, next.0)

pub returns-clause-takers : goal.returns-clause-takers
returns-clause-takers g c =
    let l = c.loop-end in
    let yields = YieldsList-from_vec {s = c.into_iter-end-iterator.result} c.args.ends.items (search rules) (search rules) in
    l.invariant.0 ∙ ap (map takers_left) (all_yielded yields l.yielded l.end-iterator l.yielded_by c.next.result c.next.new.self c.in-None.is c.next.ensures.steps)

pub returns-clause-putters : goal.returns-clause-putters
returns-clause-putters g c =
    let l = c.loop-end in
    let yields = YieldsList-from_vec {s = c.into_iter-end-iterator.result} c.args.ends.items (search rules) (search rules) in
    l.invariant.1 ∙ ap (map putters_left) (all_yielded yields l.yielded l.end-iterator l.yielded_by c.next.result c.next.new.self c.in-None.is c.next.ensures.steps)

pub returns-clause-ran : goal.returns-clause-ran
returns-clause-ran g c =
    let l = c.loop-end in
    let yields = YieldsList-from_vec {s = c.into_iter-end-iterator.result} c.args.ends.items (search rules) (search rules) in
    l.invariant.2 ∙ ap (map ran_left) (all_yielded yields l.yielded l.end-iterator l.yielded_by c.next.result c.next.new.self c.in-None.is c.next.ensures.steps)

pub returns-clause-parts : goal.returns-clause-parts
returns-clause-parts g c =
    let l = c.loop-end in
    let yields = YieldsList-from_vec {s = c.into_iter-end-iterator.result} c.args.ends.items (search rules) (search rules) in
    l.invariant.3 ∙ ap (map part_left) (all_yielded yields l.yielded l.end-iterator l.yielded_by c.next.result c.next.new.self c.in-None.is c.next.ensures.steps)
