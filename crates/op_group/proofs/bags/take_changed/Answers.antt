use Rattle.std.proofs.Common.{arith}
use Rattle.op_group.proofs.bags.take_changed.Goals as goal

pub returns-clause-from_there : goal.returns-clause-from_there
returns-clause-from_there c = λ t forgotten. let from = c.in_ok-change_fields.ensures.from in let low = c.take_bag-living.ensures.from_there t forgotten in omega arith
