use Rattle.std.proofs.Common.{◌≡◌, ◌≤◌, List, ℕ, length, false}
use Rattle.std.specs.Io.KnownBytes.{Consumes}
use Rattle.cedr_guard.specs.declared.refusal.TheConstants.{FILE_LIMIT}
use Rattle.cedr_source.specs.Whole.{HoldsRead}
use Rattle.cedr_source.proofs.read.read_blocks.Given as goal

abbrev pub invariant-loop-reading : goal.invariant-loop-reading
invariant-loop-reading g l = record {
  bytes : List ℕ;
  took : Consumes (g.S.Source.rest l.fn.source) (g.S.Source.rest l.source) bytes;
  within : length bytes ≤ FILE_LIMIT;
  reads : HoldsRead l.reading l.fn.shape bytes;
  unended : l.reading.lines.lines.finished ≡ false;
  counted : g.S.Source.faults l.source ≡ g.S.Source.faults l.fn.source;
}

abbrev pub decreases-loop-reading : goal.decreases-loop-reading
decreases-loop-reading g l = l.reading.lines.room
