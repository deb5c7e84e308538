use Rattle.cedr_living.proofs.OuterLemmas.{next_place}
use Rattle.cedr_living.proofs.outer.place_after.Goals as goal

pub returns-in-Some : goal.returns-in-Some
returns-in-Some c =
    let range = c.range.ensures.in_range (search Rattle.std.proofs.Common.rules) in
    next_place c.args.counts.now c.args.from c.in-Some.place.now c.in-Some.field-0-1.now c.range.result c.next.new.self c.in-Some.ensures.steps range.1 range.2
