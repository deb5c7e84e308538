use Rattle.std.proofs.lemmas.Result.{on_ok_weaker}
use Rattle.node_laws.specs.Lists.{with_more}
use Rattle.plan_follow.proofs.PlayerLemmas.{still_count, fed_still}
use Rattle.plan_follow.proofs.net.feed_still.Goals as goal

pub feed_all-requires : goal.feed_all-requires
feed_all-requires c = λ usable.
    let r = c.requires in
    (r.0, r.2.ports, r.1, r.2.stands, r.3, r.4, r.5)

pub settle_stream-requires : goal.settle_stream-requires
settle_stream-requires c =
    let r = c.requires in
    (r.0, r.2.ports, with_more r.1 c.args.place c.args.messages.items, c.in-Ok.ensures.fed r.0 r.2.ports r.1 r.2.stands r.3 r.4 r.5)

pub returns-in-Ok : goal.returns-in-Ok
returns-in-Ok c = on_ok_weaker c.settle_stream.result (λ settled nodes given s within source legal.
    let place = c.args.place in
    let ms = c.args.messages.items in
    let fed = c.in-Ok.ensures.fed nodes s.ports given s.stands within source legal in
    fed_still nodes c.settle_stream.new.net s.ports given place ms (still_count nodes c.args.net.now given s) within (settled nodes s.ports (with_more given place ms) fed))
    c.settle_stream.ensures
