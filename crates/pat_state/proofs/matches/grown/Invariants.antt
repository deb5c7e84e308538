use Rattle.std.proofs.Common.{◌≡◌, take}
use Rattle.pat_state.specs.Steps.{stage_tests, grown_passing, near_at}
use Rattle.pat_state.specs.Groups.{seen}
use Rattle.pat_state.proofs.matches.grown.Given as goal

abbrev pub invariant-loop-partial : goal.invariant-loop-partial
invariant-loop-partial l = l.rows.items ≡ grown_passing (stage_tests l.stage l.tests) (take l.partial-index l.so_far) (near_at l.row l.changed l.place (seen l.tag l.kept))
