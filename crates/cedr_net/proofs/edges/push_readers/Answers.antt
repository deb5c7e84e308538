use Rattle.std.proofs.Common.{ap, ◌∙◌, sym, true, false, rules, get_or, eq-eqb}
use Rattle.std.proofs.lemmas.Bool.{ne_eqb}
use Rattle.std.proofs.lemmas.List.{append-nil}
use Rattle.cedr_net.proofs.EdgeLemmas.{pushed}
use Rattle.cedr_net.proofs.edges.push_readers.Goals as goal
use Rattle.cedr_net.proofs.edges.push_readers.Goals.{then-input-place+in_ok-push, else-input-place}

pub loop-port-preserved : goal.loop-port-preserved
loop-port-preserved c = elim c.if-input-place.branch [
  | then-input-place+in_ok-push w ↦ ap (λ v. v.items) w.ports-is ∙ (w.in_ok-push.ensures.items ∙ pushed c.args.place c.args.at c.loop-port.port c.args.inputs.now c.args.ports.now.items c.loop-port.ports.items true (search rules) (eq-eqb (get_or c.args.inputs.now c.loop-port.port 0) c.args.place w.if-input-place.true) c.loop-port.invariant)
  | else-input-place w ↦ ap (λ v. v.items) w.ports-is ∙ (sym (append-nil c.loop-port.ports.items) ∙ pushed c.args.place c.args.at c.loop-port.port c.args.inputs.now c.args.ports.now.items c.loop-port.ports.items false (search rules) (ne_eqb (get_or c.args.inputs.now c.loop-port.port 0) c.args.place w.if-input-place.false) c.loop-port.invariant)
]
