use Rattle.std.proofs.Common.{◌<◌, length, sym, ◌∙◌, arith}
use Rattle.node_laws.specs.Lists.{list_at}
use Rattle.cedr_net.proofs.PlaceLemmas.{source_here}
use Rattle.message_cases.proofs.NetLemmas.{stood, fed_more}
use Rattle.message_cases.proofs.network.feed.Goals as goal

pub returns : goal.returns
returns c =
    let h = c.requires in
    let fed = c.args.fed.now in
    let nodes = fed.plan.nodes.items in
    let came = fed.came.items in
    let place = c.args.place in
    let m = c.args.message in
    let within : place < length nodes = omega (arith, c.if-place-len.false, c.len.ensures) in
    let source = source_here nodes place c.index.result.now within (sym c.index.ensures) (sym c.is_source.ensures ∙ c.if-not-is_source.false) in
    let before = stood nodes fed.net c.feed.new.self came h place m within source c.index-2.result.now c.note.new.self (sym c.index-2.ensures) in
    let may = c.may_come.ensures c.if-not-may_come.false (list_at h.given place) before in
    let noted = stood nodes fed.net c.feed.new.self came h place m within source c.index_mut.result.now c.note.new.self (sym c.index_mut.ensures.value) in
    fed_more nodes fed.net c.feed.new.self came h place m within source c.index_mut.result.now c.note.new.self (sym c.index_mut.ensures.value)
    (c.in_ok-feed.ensures.fed nodes h.ports h.given h.stands within source may)
    (c.in_ok-note.ensures (list_at h.given place) noted may)
