use Rattle.std.proofs.Common.{refl, sym, ◌∙◌}
use Rattle.op_except.proofs.RangeLemmas.{last_in, rest_in, rest_there, rest_shorter}
use Rattle.op_except.proofs.AroundLemmas.{ended_found}
use Rattle.op_except.proofs.around.last_end.Goals as goal

pub returns-then-holds : goal.returns-then-holds
returns-then-holds c =
    let inv = c.loop-other.invariant in
    let found = inv.found c.in-Some.other.now (last_in c.in-Some.other.now c.in-Some.field-0-1.now c.loop-other.ended c.next_back.new.self c.in-Some.ensures.steps inv.there) in
    (c.in-Some.other.now, found.0, sym c.holds.ensures ∙ c.if-holds.true, refl, found.1)

pub loop-other-init : goal.loop-other-init
loop-other-init c = record { found = λ n there. ended_found c.args.time n c.args.rows.now _ c.ended_by-ended.ensures.rows there; there = c.ended_by-ended.ensures.there }

pub loop-other-preserved : goal.loop-other-preserved
loop-other-preserved c =
    let inv = c.loop-other.invariant in
    record {
      found = λ n there. inv.found n (rest_in c.in-Some.other.now c.in-Some.field-0-1.now c.loop-other.ended c.next_back.new.self c.in-Some.ensures.steps n there);
      there = rest_there c.in-Some.other.now c.in-Some.field-0-1.now c.loop-other.ended c.next_back.new.self c.in-Some.ensures.steps inv.there;
    }

pub loop-other-smaller : goal.loop-other-smaller
loop-other-smaller c = rest_shorter c.in-Some.other.now c.in-Some.field-0-1.now c.loop-other.ended c.next_back.new.self c.in-Some.ensures.steps
