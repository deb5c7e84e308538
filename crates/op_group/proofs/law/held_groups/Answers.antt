use Rattle.op_group.proofs.HeldLaw.{held_late}
use Rattle.op_group.proofs.law.held_groups.Goals as goal

pub returns : goal.returns
returns c = held_late
