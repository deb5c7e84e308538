use Rattle.std.proofs.Common.{◌≡◌, ◌≤◌, ◌-◌, take}
use Rattle.cedr_base.proofs.code_order.compare_codes.Given as goal

-- both begin with the same bytes
abbrev pub invariant-loop-at : goal.invariant-loop-at
invariant-loop-at l = record {
  within : l.at ≤ l.both;
  same : take l.at l.one ≡ take l.at l.other;
}

abbrev pub decreases-loop-at : goal.decreases-loop-at
decreases-loop-at l = l.both - l.at
