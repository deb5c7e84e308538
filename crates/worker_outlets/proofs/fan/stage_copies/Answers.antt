use Rattle.std.proofs.Common.{◌≡◌, ◌∷◌, ◌++◌, ◌<◌, List, [], length, ap, subst, ◌∙◌, ℕ, arith, rules}
use Rattle.cedr_base.specs.declared.change.Message.{Message}
use Rattle.worker_outlets.specs.Outgoing.{Outgoing}
use Rattle.worker_outlets.specs.Outlets.{bare, total_of, StagedUpTo}
use Rattle.worker_outlets.proofs.RoundLemmas.{map_back, swept_step}
use Rattle.worker_outlets.proofs.fan.stage_copies.Goals as goal

pub loop-i-preserved : goal.loop-i-preserved
loop-i-preserved c =
    let os = c.loop-i.list.items in
    let i = c.loop-i.i in
    let o = c.index_mut-outlet.result.now in
    let y = c.stage.new.self in
    let less : c.loop-i.i < length c.loop-i.list.items = search rules in (
      map_back bare os i o y less c.index_mut-outlet.ensures.value c.stage.ensures.bare ∙ c.loop-i.invariant.0,
      map_back total_of os i o y less c.index_mut-outlet.ensures.value c.stage.ensures.total ∙ c.loop-i.invariant.1,
      λ staged all.
          let so = c.loop-i.invariant.2 staged all in
          let same : c.in_ok-copy.copy ≡ c.args.message.now = search rules in
          swept_step _ _ os i y
          (ap (λ (x : Outgoing). x.staged) c.in_ok-stage.ensures.ok ∙ (ap (λ (m : Message). o.staged ++ m ∷ []) same ∙ ap (λ (l : List Message). l ++ c.args.message.now ∷ []) (ap (λ (x : Outgoing). x.staged) c.index_mut-outlet.ensures.value ∙ so.rest i o (omega arith) less))) so,
    )

pub returns-in_err-stage-clause-bare : goal.returns-in_err-stage-clause-bare
returns-in_err-stage-clause-bare c =
    map_back bare c.loop-i.list.items c.loop-i.i c.index_mut-outlet.result.now c.stage.new.self (search rules) c.index_mut-outlet.ensures.value c.stage.ensures.bare ∙ c.loop-i.invariant.0

pub returns-in_err-stage-clause-totals : goal.returns-in_err-stage-clause-totals
returns-in_err-stage-clause-totals c =
    map_back total_of c.loop-i.list.items c.loop-i.i c.index_mut-outlet.result.now c.stage.new.self (search rules) c.index_mut-outlet.ensures.value c.stage.ensures.total ∙ c.loop-i.invariant.1

pub returns-clause-ok : goal.returns-clause-ok
returns-clause-ok c staged all =
    let last : c.loop-i.i ≡ c.args.count = search rules in
    subst (λ (i : ℕ). StagedUpTo (staged ++ c.args.message.now ∷ []) staged c.loop-i.list.items i) last (c.loop-i.invariant.2 staged all)
