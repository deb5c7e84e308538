use Rattle.std.proofs.Common.{◌≡◌, [], None, replicate}
use Rattle.std.specs.List.{All}
use Rattle.pat_state.specs.Groups.{all_seen, IsKeyed}
use Rattle.pat_state.proofs.grouped.Grouped.new.Given as goal

abbrev pub invariant-loop : goal.invariant-loop
invariant-loop l = record {
  rows : all_seen None l.ports.items ≡ replicate l.counter [];
  keyed : All (IsKeyed 0 None) l.ports.items;
}
