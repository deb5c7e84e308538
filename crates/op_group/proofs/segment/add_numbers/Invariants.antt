use Rattle.std.proofs.Common.{◌≡◌, take, length}
use Rattle.op_group.specs.Cuts.{summed}
use Rattle.op_group.proofs.segment.add_numbers.Given as goal

abbrev pub invariant-loop-i : goal.invariant-loop-i
invariant-loop-i l = record {
  added : l.sums.items ≡ summed l.initial.sums.items (take l.i l.numbers);
  same_length : length l.sums.items ≡ length l.initial.sums.items;
}
