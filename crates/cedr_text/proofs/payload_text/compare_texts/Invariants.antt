use Rattle.std.proofs.Common.{◌≡◌, ◌≤◌, drop, length}
use Rattle.cedr_text.specs.TextRows.{texts_cmp}
use Rattle.cedr_text.proofs.payload_text.compare_texts.Given as goal

abbrev pub invariant-loop-at : goal.invariant-loop-at
invariant-loop-at l = record {
  both : l.at ≤ length l.other;
  rest : texts_cmp l.text l.other ≡ texts_cmp (drop l.at l.text) (drop l.at l.other);
}
