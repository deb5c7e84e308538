use Rattle.std.proofs.Common.{◌≡◌, ◌<◌, ℕ, List, true}
use Rattle.plan_keys.specs.Keys.{column_at}
use Rattle.plan_key_choice.specs.Choices.{AreInWidths, KeepsKeyAt}
use Rattle.plan_key_choice.specs.Partial.{TakeCandidates, IsSameChoice, is_among}
use Rattle.plan_key_choice.proofs.candidate.candidates_of.Given as goal

abbrev pub invariant-loop-column : goal.invariant-loop-column
invariant-loop-column l = record {
  same : IsSameChoice l.choice l.fn.choice;
  all : (columns : List ℕ) → AreInWidths columns l.nodes → TakeCandidates l.candidates columns → KeepsKeyAt columns l.nodes l.place → column_at columns l.place < l.column → is_among l.own.items (column_at columns l.place) ≡ true;
}
