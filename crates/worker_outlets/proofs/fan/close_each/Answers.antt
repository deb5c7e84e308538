use Rattle.std.proofs.Common.{◌∷◌, ◌<◌, [], length, ap, ◌∙◌, arith, rules}
use Rattle.node_laws.specs.Lawful.{is_over}
use Rattle.worker_outlets.specs.Outgoing.{Outgoing, last_message}
use Rattle.worker_outlets.specs.Outlets.{bare, total_of}
use Rattle.worker_outlets.proofs.RoundLemmas.{map_back, swept_step, swept_ends}
use Rattle.worker_outlets.proofs.FanLemmas.{longer_total}
use Rattle.worker_outlets.proofs.fan.close_each.Goals as goal

pub close-requires : goal.close-requires
close-requires c =
    let o = c.index_mut-outlet.result.now in
    ap is_over (ap total_of c.index_mut-outlet.ensures.value ∙ (c.loop-i.invariant.1 c.requires.0 c.requires.1).rest c.loop-i.i o (omega arith) (search rules)) ∙ c.requires.2

pub loop-i-preserved : goal.loop-i-preserved
loop-i-preserved c =
    let os = c.loop-i.list.items in
    let i = c.loop-i.i in
    let o = c.index_mut-outlet.result.now in
    let y = c.close.new.self in
    let less : c.loop-i.i < length c.loop-i.list.items = search rules in (
      map_back bare os i o y less c.index_mut-outlet.ensures.value (ap bare c.close.ensures) ∙ c.loop-i.invariant.0,
      λ given all.
          let so = c.loop-i.invariant.1 given all in
          swept_step _ _ os i y
          (longer_total o y given (last_message c.args.last ∷ []) (ap (λ (x : Outgoing). x.sent) c.close.ensures) (ap (λ (x : Outgoing). x.pending) c.close.ensures) (ap total_of c.index_mut-outlet.ensures.value ∙ so.rest i o (omega arith) less)) so,
    )

pub returns-clause-given : goal.returns-clause-given
returns-clause-given c given all = swept_ends _ _ _ c.loop-i.i (search rules) (c.loop-i.invariant.1 given all)
