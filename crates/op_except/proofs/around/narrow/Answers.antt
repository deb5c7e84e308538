use Rattle.op_except.proofs.AroundLemmas.{narrow_along}
use Rattle.op_except.proofs.around.narrow.Goals as goal

pub returns : goal.returns
returns c = narrow_along c.args.tests.now c.args.from c.args.to c.args.rows.now c.args.part.now c.narrow_begin.new.part c.narrow_end.new.part (c.narrow_begin.ensures c.args.to) c.narrow_end.ensures
