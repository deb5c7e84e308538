use Rattle.std.proofs.Common.{◌≡◌, take}
use Rattle.op_group.proofs.segment.copy_fields.Given as goal

abbrev pub invariant-loop-extreme : goal.invariant-loop-extreme
invariant-loop-extreme l = l.copied.items ≡ take l.extreme-index l.extremes
