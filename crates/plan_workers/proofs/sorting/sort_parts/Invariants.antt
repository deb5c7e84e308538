use Rattle.std.proofs.Common.{◌≡◌, ◌≤◌, ◌++◌, length}
use Rattle.std.specs.Prelude.{option_to_list}
use Rattle.std.specs.Vec.{vec_capacity}
use Rattle.plan_workers.specs.Sortings.{source_ends_in, writers_in}
use Rattle.plan_workers.proofs.sorting.sort_parts.Given as goal

abbrev pub invariant-loop-part : goal.invariant-loop-part
invariant-loop-part g l = record {
  sources : l.sources.items ++ source_ends_in l.left.items ≡ source_ends_in l.fn.parts.items;
  writer : option_to_list l.writer ++ writers_in l.left.items ≡ writers_in l.fn.parts.items;
  room : length (source_ends_in l.fn.parts.items) ≤ vec_capacity l.sources;
}

abbrev pub decreases-loop-part : goal.decreases-loop-part
decreases-loop-part g l = length l.left.items
