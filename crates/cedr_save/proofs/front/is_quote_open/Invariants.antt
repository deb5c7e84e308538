use Rattle.std.proofs.Common.{◌≡◌, false, take}
use Rattle.cedr_save.specs.Fronts.{is_quote_open}
use Rattle.cedr_save.proofs.front.is_quote_open.Given as goal

abbrev pub invariant-loop-byte : goal.invariant-loop-byte
invariant-loop-byte l = is_quote_open false (take l.byte-index l.text) ≡ l.is_open
