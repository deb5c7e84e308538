use Rattle.std.proofs.Common.{sym, subst}
use Rattle.std.proofs.lemmas.Result.{on_ok_weaker}
use Rattle.cedr_net.specs.declared.stream.StreamNet.{StreamNet}
use Rattle.cedr_net.specs.Networks.{NetStands}
use Rattle.cedr_net.proofs.stream.StreamNet.feed.Goals as goal

pub returns-clause-fed : goal.returns-clause-fed
returns-clause-fed c = on_ok_weaker c.feed.result (λ fed nodes ports given h. fed nodes ports given (subst (λ (net : StreamNet). NetStands nodes net ports given) (sym c.self.view_is) h)) c.feed.ensures.fed
