use Rattle.std.proofs.Common.{◌≡◌, ◌++◌, take}
use Rattle.std.specs.List.{flat_map}
use Rattle.op_group.specs.Cuts.{added_unless}
use Rattle.op_group.proofs.answer.add.Given as goal

abbrev pub invariant-loop-row : goal.invariant-loop-row
invariant-loop-row l = l.out.items ≡ l.initial.out.items ++ flat_map (added_unless l.olds) (take l.row-index l.news)
