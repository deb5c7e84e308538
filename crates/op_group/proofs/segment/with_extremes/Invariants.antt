use Rattle.std.proofs.Common.{◌≡◌, ◌++◌, take}
use Rattle.std.specs.List.{filter_map}
use Rattle.op_group.proofs.segment.with_extremes.Given as goal

abbrev pub invariant-loop-extreme : goal.invariant-loop-extreme
invariant-loop-extreme l = l.written ≡ l.initial.written ++ filter_map (λ extreme. extreme) (take l.extreme-index l.extremes)
