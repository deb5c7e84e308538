use Rattle.std.proofs.Common.{◌≤◌, ◌⊎◌, inl, inr, ℕ, min, sym, ◌∙◌, subst}
use Rattle.std.specs.Prelude.{nat_le}
use Rattle.std.proofs.lemmas.Bool.{leb-true}
use Rattle.cedr_base.specs.declared.row.Row.{Row}
use Rattle.cedr_table.specs.Counted.{spread}
use Rattle.op_except.specs.Around.{Narrows}
use Rattle.op_except.proofs.RangeLemmas.{either_true, head_in, tail_in, tail_there}
use Rattle.op_except.proofs.AroundLemmas.{narrow_none, narrow_end}
use Rattle.op_except.proofs.around.end_at_next.Goals as goal

pub loop-other-preserved : goal.loop-other-preserved
loop-other-preserved c =
    let inv = c.loop-other.invariant in
    record {
      among = λ r there. inv.among r (tail_in c.in-Some.other.now c.in-Some.field-0-1.now c.loop-other.other-iterator c.next.new.self c.in-Some.ensures.steps r there);
      there = tail_there c.in-Some.other.now c.in-Some.field-0-1.now c.loop-other.other-iterator c.next.new.self c.in-Some.ensures.steps inv.there;
      same = inv.same;
    }

pub returns-then-holds : goal.returns-then-holds
returns-then-holds c = λ from.
    let inv = c.loop-other.invariant in
    let there = inv.among c.in-Some.other.now (head_in c.in-Some.other.now c.in-Some.field-0-1.now c.loop-other.other-iterator c.next.new.self c.in-Some.ensures.steps inv.there) in
    let beyond : (c.args.to ≤ c.in-Some.other.now.begin) ⊎ (c.loop-other.part.end ≤ c.in-Some.other.now.end) =
    elim (either_true (nat_le c.args.to c.in-Some.other.now.begin) (nat_le c.loop-other.part.end c.in-Some.other.now.end) (sym c.is_beyond.ensures ∙ c.if-is_beyond.true)) [
      | inl late ↦ inl (leb-true c.args.to c.in-Some.other.now.begin late)
      | inr lasts ↦ inr (leb-true c.loop-other.part.end c.in-Some.other.now.end lasts)
    ] in
    subst (λ (e : ℕ). Narrows c.args.tests.now from c.args.to (spread c.args.others) c.args.part.now (record { end = e; begin = c.loop-other.part.begin; payload = c.loop-other.part.payload })) (sym c.min-part.ensures)
    (subst (λ (x : Row). Narrows c.args.tests.now from c.args.to (spread c.args.others) x (record { end = min c.loop-other.part.end c.in-Some.other.now.begin; begin = c.loop-other.part.begin; payload = c.loop-other.part.payload })) inv.same
    (narrow_end c.args.tests.now from c.args.to (spread c.args.others) c.loop-other.part c.in-Some.other.now there (sym c.holds.ensures ∙ c.if-holds.true) beyond))

pub returns : goal.returns
returns c = λ from. subst (λ (x : Row). Narrows c.args.tests.now from c.args.to (spread c.args.others) x c.loop-other.part) c.loop-other.invariant.same (narrow_none c.args.tests.now from c.args.to (spread c.args.others) c.loop-other.part)
