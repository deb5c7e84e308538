use Rattle.std.proofs.Common.{◌<◌, ◌≤◌, ◌-◌, ℕ}
use Rattle.plan_keys.specs.Keys.{column_at, width_at}
use Rattle.plan_key_choice.specs.Choices.{AreInWidths, KeepsKeyAt}
use Rattle.plan_key_choice.specs.Partial.{chosen_columns}
use Rattle.plan_key_choice.proofs.search.is_choice.Given as goal

abbrev pub invariant-loop-place : goal.invariant-loop-place
invariant-loop-place l = record {
  widths : (k : ℕ) → k < l.place → column_at (chosen_columns l.choice) k ≤ width_at l.nodes k - 1;
  keeps : (k : ℕ) → k < l.place → AreInWidths (chosen_columns l.choice) l.nodes → KeepsKeyAt (chosen_columns l.choice) l.nodes k;
}
