use Rattle.std.proofs.Common.{List, ap, sym, subst, ◌∙◌}
use Rattle.node_laws.specs.Lists.{Lists}
use Rattle.cedr_net.specs.Edges.{waits_on_all, ArePorts}
use Rattle.cedr_net.proofs.EdgeLemmas.{all_stay, all_wait_one}
use Rattle.cedr_net.proofs.edges.send_all.Goals as goal

pub loop-message-preserved : goal.loop-message-preserved
loop-message-preserved c =
    let readers = c.args.readers.now in
    let l = c.loop-message in
    let m = c.in-Some.message in (
      c.in_ok-send_one.ensures ∙ (ap (λ (ws : List Lists). waits_on_all ws readers m) l.invariant.0 ∙ sym (all_wait_one c.args.waiting.now.items readers l.yielded m)),
      subst (λ (ws : List Lists). ArePorts ws readers) (sym c.in_ok-send_one.ensures) (all_stay readers readers l.waiting.items m l.invariant.1 l.invariant.1),
    )
