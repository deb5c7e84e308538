use Rattle.cedr_net.proofs.network.Network.turn.Goals as goal

pub returns-in-Ok-clause-turned : goal.returns-in-Ok-clause-turned
returns-in-Ok-clause-turned c = λ nodes ports given h within. record {
  turned = λ is. let t = c.in-Ok.ensures.turned is in (t.0, t.1 nodes ports given h.stands within);
  idle = λ is. let i = c.in-Ok.ensures.idle is in (i.0, record { usable = h.usable; stands = i.2 nodes ports given h.stands });
  usable = h.usable;
}
