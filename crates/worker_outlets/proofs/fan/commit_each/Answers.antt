use Rattle.std.proofs.Common.{◌++◌, ◌<◌, List, length, ap, sym, subst, ◌∙◌, arith, rules}
use Rattle.cedr_base.specs.declared.change.Message.{Message}
use Rattle.cedr_base.specs.Messages.{IsLegal}
use Rattle.worker_outlets.specs.Outgoing.{Outgoing}
use Rattle.worker_outlets.specs.Outlets.{bare, total_of}
use Rattle.worker_outlets.proofs.RoundLemmas.{map_back, swept_step, swept_ends}
use Rattle.worker_outlets.proofs.FanLemmas.{longer_total}
use Rattle.worker_outlets.proofs.fan.commit_each.Goals as goal

pub commit-requires : goal.commit-requires
commit-requires c =
    let o = c.index_mut-outlet.result.now in
    let given = c.requires.0 in
    let piece = c.requires.1 in
    let at = (c.loop-i.invariant.1 given piece c.requires.2 c.requires.3).rest c.loop-i.i o (omega arith) (search rules) in
    let total = ap total_of c.index_mut-outlet.ensures.value ∙ at.0 in
    let staged = ap (λ (x : Outgoing). x.staged) c.index_mut-outlet.ensures.value ∙ at.1 in
    subst IsLegal (λ k. sym total k ++ sym staged k) c.requires.4

pub loop-i-preserved : goal.loop-i-preserved
loop-i-preserved c =
    let os = c.loop-i.list.items in
    let i = c.loop-i.i in
    let o = c.index_mut-outlet.result.now in
    let y = c.commit.new.self in
    let less : c.loop-i.i < length c.loop-i.list.items = search rules in (
      map_back bare os i o y less c.index_mut-outlet.ensures.value (ap bare c.commit.ensures) ∙ c.loop-i.invariant.0,
      λ given piece all staged.
          let so = c.loop-i.invariant.1 given piece all staged in
          let at = so.rest i o (omega arith) less in
          let piece_is = ap (λ (x : Outgoing). x.staged) c.index_mut-outlet.ensures.value ∙ at.1 in
          swept_step _ _ os i y (
            longer_total o y given piece (ap (λ (x : Outgoing). x.sent) c.commit.ensures) (ap (λ (x : Outgoing). x.pending) c.commit.ensures ∙ ap (λ (l : List Message). o.pending ++ l) piece_is) (ap total_of c.index_mut-outlet.ensures.value ∙ at.0),
            ap (λ (x : Outgoing). x.staged) c.commit.ensures,
          )
          so,
    )

pub returns-clause-given : goal.returns-clause-given
returns-clause-given c given piece all staged =
    let ends = swept_ends _ _ _ c.loop-i.i (search rules) (c.loop-i.invariant.1 given piece all staged) in
    (λ k d less. (ends k d less).0, λ k d less. (ends k d less).1)
