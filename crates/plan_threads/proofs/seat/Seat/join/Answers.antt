use Rattle.std.proofs.Common.{subst}
use Rattle.plan_threads.specs.Seats.{SeatAs}
use Rattle.plan_threads.proofs.seat.Seat.join.Goals as goal

pub returns-in-Away : goal.returns-in-Away
returns-in-Away g c = λ role works. c.join.ensures role (subst (SeatAs g.S.Source.rest g.S.Source.faults role) c.in-Away.is works)
