use Rattle.cedr_net.proofs.network.Network.feed.Goals as goal

pub returns-in-Ok-clause-fed : goal.returns-in-Ok-clause-fed
returns-in-Ok-clause-fed c = λ nodes ports given h within source may. record { usable = h.usable; stands = c.in-Ok.ensures.fed nodes ports given h.stands within source may }
