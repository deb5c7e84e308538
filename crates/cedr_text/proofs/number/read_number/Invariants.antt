use Rattle.std.proofs.Common.{◌≡◌, drop}
use Rattle.cedr_text.specs.Numbers.{whole_number}
use Rattle.cedr_text.proofs.Numerals.{number_after}
use Rattle.cedr_text.proofs.number.read_number.Given as goal

abbrev pub invariant-loop-byte : goal.invariant-loop-byte
invariant-loop-byte l = whole_number l.last l.text ≡ number_after l.last l.value (drop l.byte-index l.text)
