use Rattle.cedr_net.proofs.network.Network.settle.Goals as goal

pub returns-in-Ok-clause-settled : goal.returns-in-Ok-clause-settled
returns-in-Ok-clause-settled c = λ nodes ports given h.
    let u = c.in-Ok.ensures.settled nodes ports given h.stands in
    record { ports = u.ports; given' = u.given'; stands = record { usable = h.usable; stands = u.stands }; sources = u.sources; grow = u.grow; empty = u.empty; takes = u.takes }
