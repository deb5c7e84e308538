use Rattle.std.proofs.Common.{◌≡◌, true, false, take}
use Rattle.cedr_save.specs.Fronts.{is_uncut, is_quote_open}
use Rattle.cedr_save.proofs.front.field_end.Given as goal

abbrev pub invariant-loop-at : goal.invariant-loop-at
invariant-loop-at l = record {
  uncut : is_uncut false (take l.at l.text) ≡ true;
  opened : is_quote_open false (take l.at l.text) ≡ l.is_open;
}
