use Rattle.op_group.specs.BoundLaws.{open_is_greatest}
use Rattle.op_group.proofs.law.open_groups.Goals as goal

pub returns : goal.returns
returns c = open_is_greatest
