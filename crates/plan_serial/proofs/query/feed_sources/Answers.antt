use Rattle.plan_serial.proofs.query.feed_sources.Goals as goal

pub feed_all-requires : goal.feed_all-requires
feed_all-requires c =
    let nodes = c.args.plan.now.nodes.items in
    let whole = c.args.left.items in
    (nodes, whole, 0, c.fed_sources.ensures.begins nodes c.in_ok-net.net whole c.in_ok-net.ensures c.requires.sources)

pub returns : goal.returns
returns c =
    let nodes = c.args.plan.now.nodes.items in
    let whole = c.args.left.items in
    let e = c.in_ok-feed_all.ensures nodes whole 0 (c.fed_sources.ensures.begins nodes c.in_ok-net.net whole c.in_ok-net.ensures c.requires.sources) in
    c.fed_sources.ensures.ends nodes c.feed_all.new.net c.feed_all.new.remaining.items whole e.0 e.1 e.2 e.3
