use Rattle.std.proofs.Common.{◌≡◌, is_some, drop}
use Rattle.cedr_text.specs.Quoting.{line_fields}
use Rattle.cedr_text.proofs.QuotingLemmas.{fields_from}
use Rattle.cedr_text.proofs.quoting.keeps_rule.Given as goal

abbrev pub invariant-loop-byte : goal.invariant-loop-byte
invariant-loop-byte l = is_some (fields_from l.place (drop l.byte-index l.line)) ≡ is_some (line_fields l.line)
