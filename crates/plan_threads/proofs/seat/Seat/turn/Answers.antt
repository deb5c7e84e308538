use Rattle.std.proofs.Common.{subst}
use Rattle.plan_threads.specs.Seats.{SeatAs}
use Rattle.plan_threads.proofs.seat.Seat.turn.Goals as goal

pub turn-requires-after_bounds : goal.turn-requires-after_bounds
turn-requires-after_bounds g c κs within = (c.requires.0, subst (SeatAs g.S.Source.rest g.S.Source.faults c.requires.0) c.in-Here.is c.requires.1)

pub returns-in-Here : goal.returns-in-Here
returns-in-Here g c = λ role works. c.turn.ensures.works role (subst (SeatAs g.S.Source.rest g.S.Source.faults role) c.in-Here.is works)
