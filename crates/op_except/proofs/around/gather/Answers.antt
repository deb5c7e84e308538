use Rattle.op_except.proofs.AroundLemmas.{gathers_beyond, gathers_both}
use Rattle.op_except.proofs.around.gather.Goals as goal

pub returns-else-part-lt-FOREVER : goal.returns-else-part-lt-FOREVER
returns-else-part-lt-FOREVER c = λ are. gathers_beyond c.args.tests.now c.args.part.now c.args.rows.now c.args.busy.now c.if-part-lt-FOREVER.false are

pub returns-in_ok-gather_range-2 : goal.returns-in_ok-gather_range-2
returns-in_ok-gather_range-2 c = λ are.
    gathers_both c.args.tests.now c.args.part.now _ _ c.args.rows.now c.args.busy.now c.gather_range.new.busy c.gather_range-then-part-lt-FOREVER.new.busy are c.meeting-ending.ensures.among.0 c.meeting-ending.ensures.among.1 c.meeting-ending.ensures.rows
    c.in_ok-gather_range.ensures c.in_ok-gather_range-2.ensures
