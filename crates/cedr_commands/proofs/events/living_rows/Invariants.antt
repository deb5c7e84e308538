use Rattle.std.proofs.Common.{◌≡◌, ◌++◌}
use Rattle.cedr_commands.specs.Events.{living_rows}
use Rattle.cedr_commands.proofs.events.living_rows.Given as goal

abbrev pub invariant-loop-interval : goal.invariant-loop-interval
invariant-loop-interval l = record {
  can_next : (goal.iterator-loop-interval).can_next l.interval-iterator;
  is_finite : (goal.iterator-loop-interval).is_finite l.interval-iterator;
  rest : l.rows.items ++ living_rows l.interval-iterator.rest.items l.payloads.rest.items ≡ living_rows l.fn.intervals.items l.fn.payloads.items;
}
