use Rattle.std.proofs.Common.{◌∷◌, [], List, ap, arith, length, length-append, rules, subst, sym}
use Rattle.std.proofs.lemmas.Iterator.Adapters.{YieldsList-from_vec}
use Rattle.std.proofs.lemmas.Iterator.Consumers.{YieldsList-turn}
use Rattle.plan_workers.specs.declared.worker.Worker.{Worker}
use Rattle.plan_workers.specs.Roles.{HasEnded}
use Rattle.plan_workers.proofs.ClosingLemmas.{AllEndSo, all_yielded, role_at, so_more, so_none}
use Rattle.plan_workers.proofs.ending.finish_each.Goals as goal

pub loop-worker-init : goal.loop-worker-init
loop-worker-init g c = (so_none g.S.Source.rest g.S.Source.faults c.args.room.items c.requires.room.0, search rules, c.requires.room.1)

pub finish-requires-clause-works : goal.finish-requires-clause-works
finish-requires-clause-works g c =
    let l = c.loop-worker in
    let yields = YieldsList-from_vec {s = c.into_iter-worker-iterator.result} c.args.workers.items (search rules) (search rules) in
    let next = YieldsList-turn yields l.yielded l.worker-iterator l.yielded_by c.next.result c.next.new.self c.in-Some.worker c.in-Some.is c.next.ensures.steps in
    role_at g.S.Source.rest g.S.Source.faults c.requires.works.0 c.args.workers.items (length l.yielded) c.in-Some.worker c.requires.works.1 next.0 next.1

pub finish-requires-clause-ended : goal.finish-requires-clause-ended
finish-requires-clause-ended g c =
    let l = c.loop-worker in
    let yields = YieldsList-from_vec {s = c.into_iter-worker-iterator.result} c.args.workers.items (search rules) (search rules) in
    let next = YieldsList-turn yields l.yielded l.worker-iterator l.yielded_by c.next.result c.next.new.self c.in-Some.worker c.in-Some.is c.next.ensures.steps in
    subst HasEnded (sym next.1) (c.requires.ended (length l.yielded) c.in-Some.worker next.0)

pub loop-worker-preserved : goal.loop-worker-preserved
loop-worker-preserved g c =
    let l = c.loop-worker in
    let pushed = c.push_reserved.ensures in (
      so_more g.S.Source.rest g.S.Source.faults l.yielded c.in-Some.worker l.ends.items c.push_reserved.new.self.items c.finish.result l.invariant.0 c.finish.ensures pushed.items,
      omega (arith, pushed.len, length-append l.yielded (c.in-Some.worker ∷ [])),
      omega (arith, pushed.capacity),
    )

pub returns : goal.returns
returns g c =
    let l = c.loop-worker in
    let yields = YieldsList-from_vec {s = c.into_iter-worker-iterator.result} c.args.workers.items (search rules) (search rules) in
    let whole = all_yielded yields l.yielded l.worker-iterator l.yielded_by c.next.result c.next.new.self c.in-None.is c.next.ensures.steps in
    record {
      left = subst (λ (ws : List (Worker g.row.S.Denot g.row.R.Denot)). AllEndSo g.S.Source.rest g.S.Source.faults ws l.ends.items) whole l.invariant.0;
      count = omega (arith, l.ends.ok.0, l.invariant.1, ap (λ (ws : List (Worker g.row.S.Denot g.row.R.Denot)). length ws) whole);
    }
