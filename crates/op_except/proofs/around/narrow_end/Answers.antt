use Rattle.op_except.proofs.AroundLemmas.{narrow_along, narrow_more}
use Rattle.op_except.proofs.around.narrow_end.Goals as goal

pub returns-then-to-lt-FOREVER : goal.returns-then-to-lt-FOREVER
returns-then-to-lt-FOREVER c =
    narrow_along c.args.tests.now c.args.from c.args.to c.args.rows.now c.args.part.now c.end_at_next.new.part c.end_at_next-then-to-lt-FOREVER.new.part
    (narrow_more c.args.tests.now c.args.from c.args.to _ c.args.rows.now c.args.part.now c.end_at_next.new.part c.meeting-open.ensures.among.1 (c.end_at_next.ensures c.args.from))
    (narrow_more c.args.tests.now c.args.from c.args.to _ c.args.rows.now c.end_at_next.new.part c.end_at_next-then-to-lt-FOREVER.new.part c.meeting-ending.ensures.among.0 (c.end_at_next-then-to-lt-FOREVER.ensures c.args.from))

pub returns-else-to-part : goal.returns-else-to-part
returns-else-to-part c = narrow_more c.args.tests.now c.args.from c.args.to _ c.args.rows.now c.args.part.now c.end_at_next.new.part c.meeting-open.ensures.among.1 (c.end_at_next.ensures c.args.from)
