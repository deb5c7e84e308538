use Rattle.plan_serial.proofs.RoundLemmas.{may_be_fed, round_more}
use Rattle.plan_serial.proofs.feeding.feed_round.Goals as goal

pub feed_each-requires : goal.feed_each-requires
feed_each-requires c =
    let r = c.requires in
    let s = r.3 in
    (r.0, s.ports, s.given, s.stands, may_be_fed r.0 c.args.net.now c.args.remaining.now.items r.1 r.2 s)

pub settle-requires : goal.settle-requires
settle-requires c = λ usable.
    let r = c.requires in
    let s = r.3 in
    let f = c.in_ok-fed.ensures.stands r.0 s.ports s.given s.stands (may_be_fed r.0 c.args.net.now c.args.remaining.now.items r.1 r.2 s) in
    (r.0, s.ports, f.given', f.stands)

pub returns-in-Ok-clause-round : goal.returns-in-Ok-clause-round
returns-in-Ok-clause-round c = λ nodes whole rounds s.
    let left = c.args.remaining.now.items in
    let f = c.in_ok-fed.ensures.stands nodes s.ports s.given s.stands (may_be_fed nodes c.args.net.now left whole rounds s) in
    round_more nodes c.args.net.now left whole rounds s c.feed_each.new.net c.feed_each.new.remaining.items f c.in_ok-fed.ensures.taken c.settle.new.self (c.in-Ok.ensures.settled nodes s.ports f.given' f.stands)
