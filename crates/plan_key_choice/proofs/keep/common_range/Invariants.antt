use Rattle.std.proofs.Common.{◌≡◌, drop}
use Rattle.plan_key_choice.specs.Ranges.{common_range, IsNarrowRange}
use Rattle.plan_key_choice.proofs.keep.common_range.Given as goal

abbrev pub invariant-loop-port : goal.invariant-loop-port
invariant-loop-port l = record {
  common : common_range (drop l.port-index l.ports) l.common ≡ common_range l.ports l.fn.range;
  narrow : IsNarrowRange l.common;
}
