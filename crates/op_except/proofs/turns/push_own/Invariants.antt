use Rattle.std.proofs.Common.{◌≡◌, ◌++◌, take, length}
use Rattle.std.specs.List.{flat_map}
use Rattle.op_except.specs.Steps.{own_at}
use Rattle.op_except.proofs.turns.push_own.Given as goal

abbrev pub invariant-loop-part : goal.invariant-loop-part
invariant-loop-part l =
    (l.out.items ≡ l.initial.out.items ++ flat_map (own_at l.change) l.yielded)
    × (take (length l.initial.out.items) l.out.items ≡ l.initial.out.items)
