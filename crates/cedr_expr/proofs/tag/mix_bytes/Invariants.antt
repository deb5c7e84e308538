use Rattle.std.proofs.Common.{◌≡◌, take}
use Rattle.cedr_expr.specs.Tags.{all_mixed}
use Rattle.cedr_expr.proofs.tag.mix_bytes.Given as goal

abbrev pub invariant-loop-byte : goal.invariant-loop-byte
invariant-loop-byte l = l.hash ≡ all_mixed l.seed (take l.byte-index l.bytes)
