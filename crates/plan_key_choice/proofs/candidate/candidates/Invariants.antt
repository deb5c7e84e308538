use Rattle.std.proofs.Common.{◌≡◌, length}
use Rattle.plan_key_choice.specs.Partial.{AreCandidates, IsSameChoice}
use Rattle.plan_key_choice.proofs.candidate.candidates.Given as goal

abbrev pub invariant-loop-place : goal.invariant-loop-place
invariant-loop-place l = record {
  known : AreCandidates l.candidates.items l.nodes;
  many : length l.candidates.items ≡ l.place;
  same : IsSameChoice l.choice l.fn.choice;
}
