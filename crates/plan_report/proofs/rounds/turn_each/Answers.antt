use Rattle.std.proofs.Common.{◌<◌, length, subst, sym, ◌∙◌, arith}
use Rattle.std.proofs.lemmas.List.{length-set}
use Rattle.plan_workers.specs.Roles.{WorksAs}
use Rattle.plan_workers.proofs.AllLemmas.{all_at, all_set}
use Rattle.plan_report.proofs.RoundLemmas.{ended_on}
use Rattle.plan_report.proofs.rounds.turn_each.Goals as goal

pub turn-turn-requires-after_bounds : goal.turn-turn-requires-after_bounds
turn-turn-requires-after_bounds g c κs within =
    let here : c.loop-i.i < length c.loop-i.workers.items = omega (arith, c.loop-i-test.true, c.len-i-end.ensures, c.loop-i.invariant.count) in
    let at = all_at (WorksAs g.S.Source.rest g.S.Source.faults) c.requires.0 c.loop-i.workers.items c.loop-i.i (c.loop-i.invariant.works c.requires.0 c.requires.1) here in
    (at.0, subst (WorksAs g.S.Source.rest g.S.Source.faults at.0) (sym c.index_mut-worker.ensures.value) (at.1 c.index_mut-worker.result.now))

pub loop-i-preserved : goal.loop-i-preserved
loop-i-preserved g c =
    let here : c.loop-i.i < length c.loop-i.workers.items = omega (arith, c.loop-i-test.true, c.len-i-end.ensures, c.loop-i.invariant.count) in
    record {
      works = λ roles work. all_set (WorksAs g.S.Source.rest g.S.Source.faults) roles c.loop-i.workers.items c.loop-i.i c.turn-turn.new.self (c.loop-i.invariant.works roles work) (λ role works. c.turn-turn.ensures.works role (subst (WorksAs g.S.Source.rest g.S.Source.faults role) (sym c.index_mut-worker.ensures.value) (works c.index_mut-worker.result.now)));
      count = length-set c.loop-i.workers.items c.loop-i.i c.turn-turn.new.self ∙ c.loop-i.invariant.count;
      over = ended_on c.loop-i.workers.items c.loop-i.i c.turn-turn.new.self c.loop-i.ended c.has_ended-ended.result here c.loop-i.invariant.over (λ is. c.turn-turn.ensures.ended (c.has_ended-ended.ensures is));
    }
