use Rattle.std.proofs.Common.{arith}
use Rattle.filed_rows.proofs.EndLemmas.{stays_there}
use Rattle.filed_rows.proofs.RenewLemmas.{all_to_come, row_noted, all_noted}
use Rattle.filed_rows.proofs.filed.push_ends.Goals as goal

pub loop-row-init : goal.loop-row-init
loop-row-init c = record {
  noted = all_to_come _ c.args.rows.now c.into_iter-row-iterator.result c.ended_by-row-items.result c.args.tag c.args.ends.now (omega arith) c.into_iter-row-iterator.ensures.into_iter_gives c.ended_by-row-items.ensures.rows;
  others = λ due has. has;
}

pub loop-row-preserved : goal.loop-row-preserved
loop-row-preserved c =
    let came = c.in_ok-push.ensures.ok in
    record {
      noted = row_noted c.args.rows.now c.loop-row.row-iterator c.next.new.self c.in-Some.row.now c.in-Some.field-0-1.now c.args.tag c.loop-row.ends c.push.new.self c.in-Some.ensures.steps came c.loop-row.invariant.noted;
      others = λ due has. stays_there (c.in-Some.row.now.end, c.args.tag) due c.loop-row.ends c.push.new.self came (c.loop-row.invariant.others due has);
    }

pub returns-clause-there : goal.returns-clause-there
returns-clause-there c = all_noted c.args.rows.now c.loop-row.row-iterator c.args.tag c.loop-row.ends c.in-None.ensures.steps.0 c.loop-row.invariant.noted
