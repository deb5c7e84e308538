use Rattle.filed_rows.specs.Filed.{all_under}
use Rattle.filed_rows.proofs.SpanLemmas.{all_pushed}
use Rattle.filed_rows.proofs.filed.all_rows.Goals as goal

pub loop-filed-preserved : goal.loop-filed-preserved
loop-filed-preserved c =
    all_pushed c.loop-filed.rows.items c.push_to.new.rows.items c.in-Some.filed.now (all_under c.args.by_tag.now.entries) c.in-Some.field-0-0.now c.loop-filed.filed-iterator c.next.new.self c.in-Some.ensures.steps c.in_ok-push_to.ensures c.loop-filed.invariant
