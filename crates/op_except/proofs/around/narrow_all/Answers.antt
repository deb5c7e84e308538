use Rattle.filed_rows.specs.Filed.{all_under}
use Rattle.op_except.proofs.AroundLemmas.{narrow_along, narrow_more}
use Rattle.op_except.proofs.RangeLemmas.{head_under, tail_under}
use Rattle.op_except.proofs.around.narrow_all.Goals as goal

pub loop-rows-preserved : goal.loop-rows-preserved
loop-rows-preserved c =
    let inv = c.loop-rows.invariant in
    record {
      among = λ r there. inv.among r (tail_under c.in-Some.field-0-0.now c.in-Some.rows.now c.loop-rows.rows-iterator c.next.new.self c.in-Some.ensures.steps r there);
      narrows = narrow_along c.args.tests.now c.args.from c.args.to (all_under c.args.right.now.entries) c.args.part.now c.loop-rows.part c.narrow.new.part inv.narrows
          (narrow_more c.args.tests.now c.args.from c.args.to c.in-Some.rows.now (all_under c.args.right.now.entries) c.loop-rows.part c.narrow.new.part
          (λ r there. inv.among r (head_under c.in-Some.field-0-0.now c.in-Some.rows.now c.loop-rows.rows-iterator c.next.new.self c.in-Some.ensures.steps r there)) c.narrow.ensures);
    }

pub returns : goal.returns
returns c = c.loop-rows.invariant.narrows
