use Rattle.std.proofs.Common.{[], length, subst, sym, ap, arith}
use Rattle.plan_workers.specs.Roles.{AllAs, WorksAs}
use Rattle.plan_workers.proofs.AllLemmas.{all_count}
use Rattle.plan_threads.specs.Seats.{SeatAs}
use Rattle.plan_threads.proofs.playing.play.Goals as goal

pub wait_for_each-looks-requires-clause-seats : goal.wait_for_each-looks-requires-clause-seats
wait_for_each-looks-requires-clause-seats g c κs within =
    let roles = c.requires.works.0 in (
      roles,
      c.start_each.ensures roles [] (subst (AllAs (WorksAs g.S.Source.rest g.S.Source.faults) roles) (sym c.from_vec.ensures.items) c.requires.works.1)
          (subst (AllAs (SeatAs g.S.Source.rest g.S.Source.faults) []) (sym c.requires.seats.0) tt),
    )

pub join_each-requires : goal.join_each-requires
join_each-requires g c =
    let roles = c.requires.works.0 in
    let seated = c.start_each.ensures roles [] (subst (AllAs (WorksAs g.S.Source.rest g.S.Source.faults) roles) (sym c.from_vec.ensures.items) c.requires.works.1) (subst (AllAs (SeatAs g.S.Source.rest g.S.Source.faults) []) (sym c.requires.seats.0) tt) in
    let seats = all_count (SeatAs g.S.Source.rest g.S.Source.faults) roles c.wait_for_each-looks.new.seats.items (c.wait_for_each-looks.ensures.seats roles seated) in
    let workers = all_count (WorksAs g.S.Source.rest g.S.Source.faults) roles c.args.workers.items c.requires.works.1 in
    record { room = omega (arith, seats, workers, ap length c.requires.joined.0, ap length c.from_vec-2.ensures.items, c.requires.joined.1) }

pub turn_on-requires-after_bounds : goal.turn_on-requires-after_bounds
turn_on-requires-after_bounds g c κs within =
    let roles = c.requires.works.0 in
    let seated = c.start_each.ensures roles [] (subst (AllAs (WorksAs g.S.Source.rest g.S.Source.faults) roles) (sym c.from_vec.ensures.items) c.requires.works.1) (subst (AllAs (SeatAs g.S.Source.rest g.S.Source.faults) []) (sym c.requires.seats.0) tt) in (
      roles,
      c.join_each.ensures roles [] (subst (AllAs (SeatAs g.S.Source.rest g.S.Source.faults) roles) (sym c.from_vec-2.ensures.items) (c.wait_for_each-looks.ensures.seats roles seated))
          (subst (AllAs (WorksAs g.S.Source.rest g.S.Source.faults) []) (sym c.requires.joined.0) tt),
    )

pub returns-clause-works : goal.returns-clause-works
returns-clause-works g c = λ roles works.
    let seated = c.start_each.ensures roles [] (subst (AllAs (WorksAs g.S.Source.rest g.S.Source.faults) roles) (sym c.from_vec.ensures.items) works) (subst (AllAs (SeatAs g.S.Source.rest g.S.Source.faults) []) (sym c.requires.seats.0) tt) in
    c.turn_on.ensures.works roles
    (c.join_each.ensures roles [] (subst (AllAs (SeatAs g.S.Source.rest g.S.Source.faults) roles) (sym c.from_vec-2.ensures.items) (c.wait_for_each-looks.ensures.seats roles seated))
    (subst (AllAs (WorksAs g.S.Source.rest g.S.Source.faults) []) (sym c.requires.joined.0) tt))
