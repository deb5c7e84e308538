use Rattle.std.proofs.Common.{sym, subst}
use Rattle.std.proofs.lemmas.Result.{on_ok_weaker}
use Rattle.cedr_net.specs.declared.stream.StreamNet.{StreamNet}
use Rattle.cedr_net.specs.Networks.{NetStands}
use Rattle.cedr_net.proofs.stream.StreamNet.feed_all.Goals as goal

pub returns-clause-fed : goal.returns-clause-fed
returns-clause-fed c = on_ok_weaker c.feed_all.result (λ fed nodes ports given h. fed nodes ports given (subst (λ (net : StreamNet). NetStands nodes net ports given) (sym c.self.view_is) h)) c.feed_all.ensures.fed
