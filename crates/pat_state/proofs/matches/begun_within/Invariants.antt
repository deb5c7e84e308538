use Rattle.std.proofs.Common.{◌≡◌, ◌++◌, map}
use Rattle.std.specs.List.{filter}
use Rattle.cedr_table.specs.Counted.{spread}
use Rattle.pat_state.specs.Starts.{begins_within, AreInScope}
use Rattle.pat_state.specs.Steps.{begun}
use Rattle.pat_state.specs.Groups.{seen}
use Rattle.pat_state.proofs.matches.begun_within.Given as goal

abbrev pub invariant-loop-row : goal.invariant-loop-row
invariant-loop-row l = record {
  so_far : l.rows.items ++ map (begun l.scope) (spread l.row-iterator) ≡ map (begun l.scope) (filter (begins_within l.from l.before) (seen l.fn.tag l.kept));
  within : AreInScope l.from l.before l.row-iterator;
}
