use Rattle.std.proofs.Common.{subst, sym}
use Rattle.plan_workers.specs.Roles.{AllAs, WorksAs}
use Rattle.plan_workers.proofs.AllLemmas.{all_first, all_more, all_none}
use Rattle.plan_threads.specs.Seats.{SeatAs}
use Rattle.plan_threads.proofs.rounds.+start_each.Goals as goal

pub returns-in_default : goal.returns-in_default
returns-in_default g t c = λ roles before all stand.
    all_none (WorksAs g.S.Source.rest g.S.Source.faults) (SeatAs g.S.Source.rest g.S.Source.faults) before roles c.args.workers.items c.args.seats.now.items c.in_default.ensures.none all stand

pub start-requires-after_bounds : goal.start-requires-after_bounds
start-requires-after_bounds g t c κs within =
    let first = all_first (WorksAs g.S.Source.rest g.S.Source.faults) c.requires.works.0 c.in-Some.worker c.next_of.new.queue.items (subst (AllAs (WorksAs g.S.Source.rest g.S.Source.faults) c.requires.works.0) c.in-Some.ensures.some c.requires.works.1) in
    (first.role, first.head)

pub start_each-requires-clause-works : goal.start_each-requires-clause-works
start_each-requires-clause-works g t c κs within =
    let first = all_first (WorksAs g.S.Source.rest g.S.Source.faults) c.requires.works.0 c.in-Some.worker c.next_of.new.queue.items (subst (AllAs (WorksAs g.S.Source.rest g.S.Source.faults) c.requires.works.0) c.in-Some.ensures.some c.requires.works.1) in
    (first.others, first.tail)

pub returns : goal.returns
returns g t c = λ roles before all stand.
    all_more (WorksAs g.S.Source.rest g.S.Source.faults) (SeatAs g.S.Source.rest g.S.Source.faults) before roles c.in-Some.worker c.next_of.new.queue.items c.args.seats.now.items c.start_each.new.seats.items c.start.result
    (subst (AllAs (WorksAs g.S.Source.rest g.S.Source.faults) roles) c.in-Some.ensures.some all) stand (λ role works. c.start.ensures role works)
    (λ others first tail seated. c.start_each.ensures others first tail (subst (AllAs (SeatAs g.S.Source.rest g.S.Source.faults) first) (sym c.push_reserved.ensures.items) seated))
