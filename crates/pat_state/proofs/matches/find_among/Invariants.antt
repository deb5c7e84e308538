use Rattle.std.proofs.Common.{◌≡◌, ◌≤◌, drop}
use Rattle.std.specs.List.{filter}
use Rattle.pat_state.specs.Steps.{grown_all, is_match, matches, near, picked}
use Rattle.pat_state.specs.Groups.{all_seen}
use Rattle.pat_state.proofs.matches.find_among.Given as goal

abbrev pub invariant-loop-place : goal.invariant-loop-place
invariant-loop-place l = record {
  so_far : filter (is_match l.tests) (grown_all l.rows.items (drop l.place (near l.row l.changed (picked l.order (all_seen l.tag l.kept))))) ≡ matches l.scope l.tests l.row l.changed (picked l.order (all_seen l.tag l.kept));
  within : l.place ≤ l.last;
}
