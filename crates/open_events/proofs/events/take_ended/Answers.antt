use Rattle.std.proofs.Common.{arith}
use Rattle.std.proofs.lemmas.Option.{IfSome_then}
use Rattle.open_events.proofs.EndingLemmas.{first_taken, least_first}
use Rattle.open_events.proofs.events.take_ended.Goals as goal

pub returns-in-Some-clause-some : goal.returns-in-Some-clause-some
returns-in-Some-clause-some c = first_taken c.args.ends.now.keys c.pop_first.new.self.keys c.args.time c.in-Some.first.now c.pop_first.result c.in-Some.ensures.first c.if-first-time.true c.pop_first.ensures.removal c.pop_first.ensures.member
    (IfSome_then c.pop_first.result c.pop_first.ensures.updates (λ k u. u.0))

pub returns-in_default-clause-none : goal.returns-in_default-clause-none
returns-in_default-clause-none c = λ t id there.
    let late = c.if-first-time.false in
    let first = least_first c.args.ends.now.keys c.in-Some.first.now c.in-Some.ensures.least t id there in omega arith
