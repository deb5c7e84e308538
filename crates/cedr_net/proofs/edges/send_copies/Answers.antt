use Rattle.std.proofs.Common.{◌≡◌, ◌<◌, List, length, get_or, ap, sym, subst, ◌∙◌, rules}
use Rattle.cedr_base.specs.declared.change.Message.{Message}
use Rattle.node_laws.specs.Lists.{Lists}
use Rattle.cedr_net.specs.Edges.{waits_on, ArePorts}
use Rattle.cedr_net.proofs.EdgeLemmas.{port_at, ports_stay, waits_one}
use Rattle.cedr_net.proofs.edges.send_copies.Goals as goal

pub send_to-requires : goal.send_to-requires
send_to-requires c = port_at c.loop-reader.waiting.items c.args.readers.now c.loop-reader.reader-index (0, 0) c.loop-reader.invariant.1 (search rules)

pub loop-reader-preserved : goal.loop-reader-preserved
loop-reader-preserved c =
    let readers = c.args.readers.now in
    let first = c.args.waiting.now.items in
    let there = c.loop-reader.waiting.items in
    let i = c.loop-reader.reader-index in
    let within : i < length readers = search rules in
    let now : c.send_to.new.waiting.items ≡ waits_on there (get_or readers i (0, 0)) c.in_ok-copied.copied = c.in_ok-send_to.ensures in (
      now
          ∙ (ap (λ (m : Message). waits_on there (get_or readers i (0, 0)) m) c.in_ok-copied.ensures
          ∙ (ap (λ (ws : List Lists). waits_on ws (get_or readers i (0, 0)) c.args.message.now) c.loop-reader.invariant.0 ∙ sym (waits_one first readers i (0, 0) c.args.message.now within))),
      subst (λ (ws : List Lists). ArePorts ws readers) (sym now) (ports_stay there (get_or readers i (0, 0)) c.in_ok-copied.copied readers (port_at there readers i (0, 0) c.loop-reader.invariant.1 within) c.loop-reader.invariant.1),
    )
