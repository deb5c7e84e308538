use Rattle.std.proofs.Common.{None}
use Rattle.pat_state.specs.Groups.{IsKeyed}
use Rattle.pat_state.proofs.PortLemmas.{one_more, all_more}
use Rattle.pat_state.proofs.grouped.Grouped.new.Goals as goal

pub loop-preserved : goal.loop-preserved
loop-preserved c = record {
  rows = one_more c.loop.ports.items c.push.new.self.items c.new-port.result c.loop.counter c.in_ok-push.ensures.items c.new-port.ensures.rows c.loop.invariant.rows;
  keyed = all_more (IsKeyed 0 None) c.loop.ports.items c.push.new.self.items c.new-port.result c.in_ok-push.ensures.items (c.new-port.ensures.keyed 0 None) c.loop.invariant.keyed;
}

pub returns-clause-tags : goal.returns-clause-tags
returns-clause-tags c = λ tests. record { key = tt; ports = c.loop.invariant.keyed }
