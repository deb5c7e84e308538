use Rattle.std.proofs.Common.{◌≡◌, ℕ, ◌-◌, List, drop, true}
use Rattle.plan_keys.specs.Keys.{column_at}
use Rattle.plan_key_choice.specs.Choices.{AreInWidths, KeepsKeyAt}
use Rattle.plan_key_choice.specs.Partial.{TakeCandidates, HasChosen, IsSameChoice, is_among}
use Rattle.plan_key_choice.proofs.node.+keeps_within.Given as goal

abbrev pub decreases-keeps_within : goal.decreases-keeps_within
decreases-keeps_within l = 5 - l.port

abbrev pub invariant-loop-column : goal.invariant-loop-column
invariant-loop-column l = record {
  same : IsSameChoice l.choice l.fn.choice;
  left : (columns : List ℕ) → HasChosen l.fn.choice columns → AreInWidths columns l.nodes → TakeCandidates l.candidates columns → KeepsKeyAt columns l.nodes l.place → is_among (drop l.column-index l.column-items) (column_at columns l.input) ≡ true;
}
