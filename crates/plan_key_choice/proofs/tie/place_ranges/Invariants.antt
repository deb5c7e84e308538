use Rattle.std.proofs.Common.{◌≡◌, ◌≤◌, ◌*◌, ◌++◌, drop}
use Rattle.plan_key_choice.specs.Ranges.{place_ranges}
use Rattle.plan_key_choice.proofs.tie.place_ranges.Given as goal

abbrev pub invariant-loop-port : goal.invariant-loop-port
invariant-loop-port l = record {
  made : l.places.items ++ place_ranges l.first l.column (drop l.port-index l.ports) ≡ place_ranges 0 l.column l.ports;
  bound : l.first ≤ 16 * l.port-index;
}
