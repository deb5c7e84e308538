use Rattle.std.proofs.Common.{◌<◌, length, subst, sym, ◌∙◌, arith}
use Rattle.std.proofs.lemmas.List.{length-set}
use Rattle.plan_workers.proofs.AllLemmas.{all_at, all_set}
use Rattle.plan_threads.specs.Seats.{SeatAs}
use Rattle.plan_threads.proofs.rounds.turn_here.Goals as goal

pub turn-turn-requires-after_bounds : goal.turn-turn-requires-after_bounds
turn-turn-requires-after_bounds g c κs within =
    let As = SeatAs g.S.Source.rest g.S.Source.faults in
    let here : c.loop-i.i < length c.loop-i.seats.items = omega (arith, c.loop-i-test.true, c.len-i-end.ensures, c.loop-i.invariant.count) in
    let at = all_at As c.requires.0 c.loop-i.seats.items c.loop-i.i (c.loop-i.invariant.seats c.requires.0 c.requires.1) here in
    (at.0, subst (As at.0) (sym c.index_mut-seat.ensures.value) (at.1 c.index_mut-seat.result.now))

pub loop-i-preserved : goal.loop-i-preserved
loop-i-preserved g c =
    let As = SeatAs g.S.Source.rest g.S.Source.faults in
    record {
      seats = λ roles stand. all_set As roles c.loop-i.seats.items c.loop-i.i c.turn-turn.new.self (c.loop-i.invariant.seats roles stand) (λ role stands. c.turn-turn.ensures role (subst (As role) (sym c.index_mut-seat.ensures.value) (stands c.index_mut-seat.result.now)));
      count = length-set c.loop-i.seats.items c.loop-i.i c.turn-turn.new.self ∙ c.loop-i.invariant.count;
    }
