use Rattle.std.proofs.Common.{◌≡◌, ◌++◌, take}
use Rattle.std.specs.List.{flat_map}
use Rattle.op_group.specs.Cuts.{withdrawn_unless}
use Rattle.op_group.proofs.answer.withdraw.Given as goal

abbrev pub invariant-loop-row : goal.invariant-loop-row
invariant-loop-row l = l.out.items ≡ l.initial.out.items ++ flat_map (withdrawn_unless l.news) (take l.row-index l.olds)
