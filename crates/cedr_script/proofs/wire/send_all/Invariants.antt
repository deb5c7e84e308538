use Rattle.std.proofs.Common.{◌≡◌, ◌≤◌, ◌-◌, length, take}
use Rattle.std.specs.Io.KnownBytes.{Appends, Keeps}
use Rattle.cedr_script.specs.Logs.{Sends}
use Rattle.cedr_script.proofs.wire.send_all.Given as goal

abbrev pub invariant-loop-done : goal.invariant-loop-done
invariant-loop-done g l = record {
  within : l.done ≤ length l.bytes;
  taken : Appends (g.W.Wire.written l.initial.wire) (g.W.Wire.written l.wire) (take l.done l.bytes);
  sent : Sends (g.W.Wire.log l.initial.wire) (g.W.Wire.log l.wire) (take l.done l.bytes);
  kept : Keeps (g.W.Wire.rest l.initial.wire) (g.W.Wire.rest l.wire);
  counted : g.W.Wire.refused_writes l.wire ≡ g.W.Wire.refused_writes l.initial.wire;
  reads : g.W.Wire.refused_reads l.wire ≡ g.W.Wire.refused_reads l.initial.wire;
  loans : g.W.Wire.loans l.wire ≡ g.W.Wire.loans l.initial.wire;
}

abbrev pub decreases-loop-done : goal.decreases-loop-done
decreases-loop-done g l = length l.bytes - l.done
