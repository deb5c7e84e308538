use Rattle.op_join.proofs.PortLemmas.{stands_first}
use Rattle.op_join.proofs.join.Join.new.Goals as goal

pub returns-clause-stands : goal.returns-clause-stands
returns-clause-stands c = stands_first c.args.tests c.new.result c.new-2.result c.new.ensures.ends c.new.ensures.none c.new.ensures.ordered c.new-2.ensures.ends c.new-2.ensures.none c.new-2.ensures.ordered
