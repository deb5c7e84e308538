use Rattle.std.proofs.Common.{◌≡◌, ◌++◌, map, drop}
use Rattle.cedr_guard.specs.Spelt.{state_in}
use Rattle.cedr_save.specs.Checkpoints.{plan_sources, states_lines, ended_lines}
use Rattle.cedr_save.proofs.writer.put_states.Given as goal

abbrev pub invariant-loop-node : goal.invariant-loop-node
invariant-loop-node l = l.text.items ++ ended_lines (states_lines (plan_sources (drop l.node-index l.nodes)) (map state_in l.rest)) ≡ l.initial.text.items ++ ended_lines (states_lines (plan_sources l.nodes) (map state_in l.initial.rest))
