use Rattle.std.proofs.Common.{◌∷◌, ◌++◌, ◌<◌, ◌+◌, ◌-◌, List, [], length, ap, ◌∙◌, arith, rules}
use Rattle.std.proofs.lemmas.List.{length-set}
use Rattle.cedr_base.specs.declared.change.Message.{Message}
use Rattle.worker_outlets.specs.Outgoing.{Outgoing}
use Rattle.worker_outlets.specs.Outlets.{bare, total_of}
use Rattle.worker_outlets.proofs.RoundLemmas.{map_back, swept_step, swept_ends, map_length}
use Rattle.worker_outlets.proofs.fan.stage_each.Goals as goal

pub returns-clause-bare : goal.returns-clause-bare
returns-clause-bare c =
    let some : 0 < length c.args.list.now.items = search rules in
    let same = map_length bare _ _ c.in_ok-stage_copies.ensures.bare in
    map_back bare _ _ c.index_mut-outlet.result.now _ (omega (arith, c.len-others.ensures, same, some)) c.index_mut-outlet.ensures.value c.stage.ensures.bare ∙ c.in_ok-stage_copies.ensures.bare

pub returns-clause-totals : goal.returns-clause-totals
returns-clause-totals c =
    let some : 0 < length c.args.list.now.items = search rules in
    let same = map_length bare _ _ c.in_ok-stage_copies.ensures.bare in
    map_back total_of _ _ c.index_mut-outlet.result.now _ (omega (arith, c.len-others.ensures, same, some)) c.index_mut-outlet.ensures.value c.stage.ensures.total ∙ c.in_ok-stage_copies.ensures.totals

pub returns-clause-ok : goal.returns-clause-ok
returns-clause-ok c staged all =
    let os = c.stage_copies.new.list.items in
    let i = c.len-others.result - 1 in
    let o = c.index_mut-outlet.result.now in
    let y = c.stage.new.self in
    let some : 0 < length c.args.list.now.items = search rules in
    let same = map_length bare _ _ c.in_ok-stage_copies.ensures.bare in
    let so = c.in_ok-stage_copies.ensures.ok staged all in
    swept_ends _ _ _ (i + 1) (omega (arith, c.len-others.ensures, same, some, length-set os i y))
    (swept_step _ _ os i y (ap (λ (x : Outgoing). x.staged) c.in_ok-stage.ensures.ok ∙ ap (λ (l : List Message). l ++ c.args.message ∷ []) (ap (λ (x : Outgoing). x.staged) c.index_mut-outlet.ensures.value ∙ so.rest i o (omega arith) (omega (arith, c.len-others.ensures, same, some)))) so)
