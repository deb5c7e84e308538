use Rattle.op_except.proofs.AroundLemmas.{narrow_none}
use Rattle.op_except.proofs.around.narrow_under.Goals as goal

pub returns-in_default : goal.returns-in_default
returns-in_default c = narrow_none c.args.tests.now c.args.from c.args.to _ c.args.part.now
