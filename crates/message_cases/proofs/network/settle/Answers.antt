use Rattle.message_cases.proofs.NetLemmas.{fed_still}
use Rattle.message_cases.proofs.network.settle.Goals as goal

pub returns : goal.returns
returns g c =
    let h = c.requires in
    let fed = c.args.fed.now in
    let s = c.in_ok-settle.ensures.settled fed.plan.nodes.items h.ports h.given h.stands in
    fed_still fed.plan.nodes.items fed.net c.settle.new.self fed.came.items h s.ports s.given' s.stands s.sources
