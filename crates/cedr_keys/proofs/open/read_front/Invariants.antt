use Rattle.std.proofs.Common.{◌≡◌, ◌+◌, ◌-◌, vec_len}
use Rattle.std.specs.Io.KnownBytes.{Consumes}
use Rattle.cedr_keys.proofs.open.read_front.Given as goal

abbrev pub invariant-loop-block : goal.invariant-loop-block
invariant-loop-block g l = record {
  taken : Consumes (g.S.Source.rest l.fn.source) (g.S.Source.rest l.source) l.bytes.items;
  counted : g.S.Source.faults l.source ≡ g.S.Source.faults l.fn.source;
}

abbrev pub decreases-loop-block : goal.decreases-loop-block
decreases-loop-block g l = 1048577 - vec_len l.bytes
