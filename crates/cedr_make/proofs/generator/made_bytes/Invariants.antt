use Rattle.std.proofs.Common.{◌≡◌}
use Rattle.cedr_make.specs.Generator.{made_text}
use Rattle.cedr_make.proofs.generator.made_bytes.Given as goal

abbrev pub invariant-loop-i : goal.invariant-loop-i
invariant-loop-i l = l.bytes.items ≡ made_text l.source l.i
