use Rattle.std.proofs.Common.{◌||◌, ◌+◌, List, sym, ◌∙◌, subst, rules}
use Rattle.std.proofs.lemmas.Bool.{or_parts}
use Rattle.cedr_edge.specs.Ends.{InEnd}
use Rattle.worker_outlets.proofs.RoundLemmas.{round_step}
use Rattle.cedr_worker.specs.Inputs.{TakenSoFar, KeptIn, Asked, Took}
use Rattle.cedr_worker.proofs.taking.take_each.Goals as goal

pub take_at-took-requires-clause-works : goal.take_at-took-requires-clause-works
take_at-took-requires-clause-works g c = (c.requires.0, c.loop-port.invariant.0 c.requires.0 c.requires.1)

pub loop-port-preserved : goal.loop-port-preserved
loop-port-preserved g c =
    let inv = c.loop-port.invariant in
    let t = c.take_at-took.ensures.taken in (
      λ broke w. c.take_at-took.ensures.works broke (inv.0 broke w),
      subst (λ (xs : List InEnd). TakenSoFar c.args.inputs.now.items xs (c.loop-port.moved || c.take_at-took.result.moved) (c.loop-port.port + 1)) (sym t.stands) (round_step KeptIn Asked Took _ _ c.loop-port.moved c.take_at-took.result.moved c.loop-port.port t.was t.now inv.1 (search rules) t.there t.kept t.rested t.some),
      c.take_at-took.ensures.bare ∙ inv.2,
      λ none. c.take_at-took.ensures.same (or_parts _ _ none).1 ∙ inv.3 (or_parts _ _ none).0,
      c.take_at-took.ensures.made ∙ inv.4,
    )
