use Rattle.pat_state.proofs.RenewLemmas.{row_renewed}
use Rattle.pat_state.proofs.tagged.renewed_due.Goals as goal

pub loop-row-preserved : goal.loop-row-preserved
loop-row-preserved c =
    row_renewed c.args.tags.now c.loop-row.row-iterator c.next.new.self c.in-Some.row.now c.in-Some.field-0-1.now c.in_ok-payload.payload c.loop-row.due c.push.new.self c.in-Some.ensures.steps c.in_ok-payload.ensures c.in_ok-push.ensures.ok
    c.loop-row.invariant
