use denote.Param.{param}
use denote.Param.Send.{param_send}
use Rattle.cedr_pool.specs.contracts.seat.Seat as Seat
use Rattle.cedr_pool.proofs.SendLemmas.{seat_send}
use Rattle.cedr_pool.proofs.playing.play_each.Goals as goal

-- the lent seats differ from those of the lemma in their layout's name alone
pub for_each_mut-requires-send-T : goal.for_each_mut-requires-send-T
for_each_mut-requires-send-T g c κs within =
    let W = param 0 g.row.W in
    let sent = param_send 1 (Seat.the_row W g.W.Works) (seat_send W g.W.Works c.type_bounds.send-W) in
    record { owned = sent.owned; leaving = sent.leaving }
