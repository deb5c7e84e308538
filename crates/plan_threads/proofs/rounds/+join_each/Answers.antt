use Rattle.std.proofs.Common.{subst, sym}
use Rattle.plan_workers.specs.Roles.{AllAs, WorksAs}
use Rattle.plan_workers.proofs.AllLemmas.{all_more, all_none}
use Rattle.plan_threads.specs.Seats.{SeatAs}
use Rattle.plan_threads.proofs.rounds.+join_each.Goals as goal

pub returns-in_default : goal.returns-in_default
returns-in_default g t c = λ roles before all stand.
    all_none (SeatAs g.S.Source.rest g.S.Source.faults) (WorksAs g.S.Source.rest g.S.Source.faults) before roles c.args.seats.items c.args.workers.now.items c.in_default.ensures.none all stand

pub returns : goal.returns
returns g t c = λ roles before all stand.
    all_more (SeatAs g.S.Source.rest g.S.Source.faults) (WorksAs g.S.Source.rest g.S.Source.faults) before roles c.in-Some.seat c.next_of.new.queue.items c.args.workers.now.items c.join_each.new.workers.items c.join.result
    (subst (AllAs (SeatAs g.S.Source.rest g.S.Source.faults) roles) c.in-Some.ensures.some all) stand (λ role seat. c.join.ensures role seat)
    (λ others first tail works. c.join_each.ensures others first tail (subst (AllAs (WorksAs g.S.Source.rest g.S.Source.faults) first) (sym c.push_reserved.ensures.items) works))
