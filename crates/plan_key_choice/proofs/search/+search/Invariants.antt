use Rattle.std.proofs.Common.{◌≡◌, ◌<◌, ℕ, List, [], None, drop, length, true}
use Rattle.std.specs.Prelude.{◌↔◌}
use Rattle.plan_keys.specs.Keys.{AreKeyed, column_at}
use Rattle.plan_key_choice.specs.Choices.{AreInWidths}
use Rattle.plan_key_choice.specs.Partial.{HasChosen, IsSameChoice, is_among}
use Rattle.plan_key_choice.proofs.search.+search.Given as goal

abbrev pub decreases-search : goal.decreases-search
decreases-search l = length l.order.now

abbrev pub invariant-loop-column : goal.invariant-loop-column
invariant-loop-column l = record {
  same : IsSameChoice l.choice l.fn.choice;
  left : (columns : List ℕ) → HasChosen l.fn.choice columns → AreInWidths columns l.nodes → AreKeyed columns [] l.nodes → is_among (drop l.column-index l.column-items) (column_at columns l.place) ≡ true;
  node : l.progress.node < length l.nodes;
  limited : l.progress.tries ≡ None ↔ l.fn.progress.tries ≡ None;
}
