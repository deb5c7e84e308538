use Rattle.std.proofs.Common.{◌≡◌}
use Rattle.cedr_script.specs.Cutters.{begun_of}
use Rattle.node_laws.specs.Lists.{Lists}
use Rattle.plan_follow.proofs.script.follow_lines.Given as goal
use Rattle.plan_follow.specs.Followers.{FollowerAt, nothing_gone}
use Rattle.plan_follow.specs.Holding.{IsUpTo, followed}
use Rattle.plan_follow.specs.Sending.{outside_of}
use Rattle.plan_follow.specs.Sifted.{Sifted}

abbrev pub invariant-loop : goal.invariant-loop
invariant-loop g l = record {
  up_to : (before : Sifted) (start : Lists) → FollowerAt l.nodes l.name l.initial.follower before start nothing_gone
      → IsUpTo (followed l.nodes l.shapes l.name before start) (begun_of l.cutter) l.follower (outside_of g.W.Wire.rest g.W.Wire.written g.W.Wire.log g.E.Sink.faults g.E.Sink.written l.initial.wire l.initial.err) (outside_of g.W.Wire.rest g.W.Wire.written g.W.Wire.log g.E.Sink.faults g.E.Sink.written l.wire l.err);
  reads : g.W.Wire.refused_reads l.wire ≡ g.W.Wire.refused_reads l.initial.wire;
  writes : g.W.Wire.refused_writes l.wire ≡ g.W.Wire.refused_writes l.initial.wire;
  loans : g.W.Wire.loans l.wire ≡ g.W.Wire.loans l.initial.wire;
}
