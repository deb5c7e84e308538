use Rattle.std.proofs.Common.{◌≡◌, take, replicate, []}
use Rattle.cedr_node.specs.Standing.{AllStand, levels_of}
use Rattle.cedr_node.proofs.aligned.make_ports.Given as goal

abbrev pub invariant-loop-level : goal.invariant-loop-level
invariant-loop-level l = record {
  stand : AllStand l.ports.items (replicate l.level-index []);
  levels_are : levels_of l.ports.items ≡ take l.level-index l.levels;
}
