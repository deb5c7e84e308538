use Rattle.std.proofs.Common.{rules, ℕ, List, sym, subst}
use Rattle.std.proofs.lemmas.List.{take_more}
use Rattle.plan_edges.specs.Wires.{PortsWired}
use Rattle.plan_edges.proofs.WireLemmas.{ports_more, ports_length}
use Rattle.plan_edges.proofs.making.wire_ports.Goals as goal

pub loop-from-preserved : goal.loop-from-preserved
loop-from-preserved c =
    let more = take_more c.args.inputs.now c.loop-from.from-index 0 (search rules) in
    let some = ports_more c.args.room _ _ _ _ _ _ _ c.loop-from.invariant.0 c.in_ok-wire_port.ensures in
    let wired = subst (λ (fs : List ℕ). PortsWired c.args.room fs c.wire_port.new.ends.items c.args.putters.now.items c.wire_port.new.putters.items) (sym more) some in
    (wired, ports_length c.args.room _ _ _ _ wired)
