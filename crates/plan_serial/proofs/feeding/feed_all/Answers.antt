use Rattle.std.proofs.Common.{◌+◌}
use Rattle.plan_serial.proofs.RoundLemmas.{none_after}
use Rattle.plan_serial.proofs.feeding.feed_all.Goals as goal

pub loop-init : goal.loop-init
loop-init c = λ nodes whole rounds s. (rounds, s)

pub feed_round-requires : goal.feed_round-requires
feed_round-requires c =
    let r = c.requires in
    let now = c.loop.invariant r.0 r.1 r.2 r.3 in
    (r.0, r.1, now.0, now.1)

pub loop-preserved : goal.loop-preserved
loop-preserved c = λ nodes whole rounds s.
    let now = c.loop.invariant nodes whole rounds s in
    (now.0 + 1, (c.in_ok-feed_round.ensures.round nodes whole now.0 now.1).0)

pub returns : goal.returns
returns c = λ nodes whole rounds s.
    let now = c.loop.invariant nodes whole rounds s in
    let more = c.in_ok-feed_round.ensures.round nodes whole now.0 now.1 in
    (now.0 + 1, more.0, more.1, none_after c.loop.remaining.items c.feed_round.new.remaining.items c.in_ok-feed_round.ensures.taken (c.in_ok-feed_round.ensures.none c.if-branch.false))
