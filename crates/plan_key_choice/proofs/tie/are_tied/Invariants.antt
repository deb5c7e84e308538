use Rattle.std.proofs.Common.{◌≡◌, [], take, drop}
use Rattle.plan_key_choice.specs.Ranges.{are_tied}
use Rattle.plan_key_choice.proofs.tie.are_tied.Given as goal

abbrev pub invariant-loop-k : goal.invariant-loop-k
invariant-loop-k l = are_tied l.tests (take l.k l.places) (drop l.k l.places) ≡ are_tied l.tests [] l.places
