use Rattle.std.proofs.Common.{◌≡◌, ◌++◌}
use Rattle.std.specs.List.{flat_map, filter}
use Rattle.cedr_table.specs.Counted.{spread}
use Rattle.pat_state.specs.Starts.{begins_within}
use Rattle.pat_state.specs.Steps.{stage_tests, next_passing}
use Rattle.pat_state.specs.Groups.{seen}
use Rattle.pat_state.proofs.matches.push_before.Given as goal

abbrev pub invariant-loop-row : goal.invariant-loop-row
invariant-loop-row l = l.rows.items ++ flat_map (next_passing (stage_tests l.stage l.tests) l.so_far) (spread l.row-iterator) ≡ l.initial.rows.items ++ flat_map (next_passing (stage_tests l.stage l.tests) l.so_far) (filter (begins_within l.so_far.begin l.before) (seen l.fn.tag l.kept))
