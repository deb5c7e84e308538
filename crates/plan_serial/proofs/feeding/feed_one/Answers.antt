use Rattle.plan_serial.proofs.FeedLemmas.{taken_some, next_source, next_legal, fed_line}
use Rattle.plan_serial.proofs.feeding.feed_one.Goals as goal

pub feed_all-requires : goal.feed_all-requires
feed_all-requires c = λ usable.
    let r = c.requires in
    let left = c.args.remaining.now.items in
    let now = c.pop_at.new.left.items in
    let place = c.args.place in
    let ms = c.in-Some.messages.items in
    let some = taken_some left now place c.in_ok-messages.field-0 c.in-Some.messages c.in-Some.is c.in_ok-messages.ensures.some in
    (r.0, r.1, r.2, r.3, r.5, next_source r.0 c.args.net.now r.1 r.2 left now place ms r.4 r.5 some.0 some.1, next_legal r.0 c.args.net.now r.1 r.2 left now place ms r.4 r.5 some.0 some.1)

pub returns-in-Ok-clause-stands : goal.returns-in-Ok-clause-stands
returns-in-Ok-clause-stands c = λ nodes ports given h may within.
    let left = c.args.remaining.now.items in
    let now = c.pop_at.new.left.items in
    let place = c.args.place in
    let ms = c.in-Some.messages.items in
    let some = taken_some left now place c.in_ok-messages.field-0 c.in-Some.messages c.in-Some.is c.in_ok-messages.ensures.some in
    fed_line nodes c.feed_all.new.self ports given left now place ms may within some.0 some.1 h.stands.flows.given_count
    (c.in-Ok.ensures.fed nodes ports given h within (next_source nodes c.args.net.now ports given left now place ms may within some.0 some.1) (next_legal nodes c.args.net.now ports given left now place ms may within some.0 some.1))
