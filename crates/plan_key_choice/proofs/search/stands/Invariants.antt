use Rattle.std.proofs.Common.{◌≡◌, ◌<◌, length}
use Rattle.plan_key_choice.specs.Partial.{IsSameChoice}
use Rattle.plan_key_choice.proofs.search.stands.Given as goal

abbrev pub invariant-loop-node : goal.invariant-loop-node
invariant-loop-node l = record {
  same : IsSameChoice l.choice l.fn.choice;
  node : l.progress.node < length l.nodes;
  tries : l.progress.tries ≡ l.fn.progress.tries;
}
