use Rattle.std.proofs.Common.{◌≡◌, ℕ, suc, cond, ◌-◌, ◌/◌, ◌^◌, ◌<◌}
use Rattle.std.specs.Int.{bytes_high_first}
use Rattle.cedr_base.proofs.field_code.read_size.Given as goal

-- the size so far fits in the bytes that were read, and is what the number's highest ones make
abbrev pub invariant-loop-byte : goal.invariant-loop-byte
invariant-loop-byte l = record {
  fits : l.size < 256 ^ l.byte-index;
  highest : (k n : ℕ) → n < 256 ^ k → l.bytes ≡ bytes_high_first k (cond l.negative (2 ^ 128 - suc n) n) → l.size ≡ n / 256 ^ (k - l.byte-index);
}
