use Rattle.std.proofs.Common.{◌∙◌, suc, arith}
use Rattle.cedr_living.specs.Pieces.{steps, odd_edge}
use Rattle.cedr_living.specs.Indexes.{comes}
use Rattle.cedr_living.proofs.CutLemmas.{steps_next, steps_now, no_steps_above, rest_next, rest_not_below, rest_here, level_done, life_done}
use Rattle.cedr_living.proofs.pieces.Pieces.shift_steps.Goals as goal

pub loop-from-preserved : goal.loop-from-preserved
loop-from-preserved c =
    let level = c.shift_if.ensures.level in
    record {
      room = omega arith;
      some = omega arith;
      column = c.shift_if.ensures.column ∙ c.loop-from.invariant.column;
      field = c.shift_if.ensures.field ∙ c.loop-from.invariant.field;
      later = λ k at. steps_next c.loop-from.place.level _ k c.args.begin c.loop-from.from at level c.loop-from-test.true (c.loop-from.invariant.later (suc k) at);
      rest = λ k. rest_next c.loop-from.place.level _ k c.args.begin c.loop-from.from level c.loop-from-test.true (c.loop-from.invariant.rest (suc k));
      earlier = λ k below. rest_not_below c.loop-from.place.level _ k c.args.begin c.loop-from.from level c.loop-from-test.true (c.loop-from.invariant.rest 0) (c.loop-from.invariant.earlier k) below;
      shows = λ counts shows. level_done (comes c.args.way) c.args.place.now (λ n at. steps n c.args.begin at) counts (λ at. odd_edge c.loop-from.from c.loop-from.from at) c.loop-from.place _ c.loop-from.self _ level c.loop-from.invariant.column c.loop-from.invariant.field
          (λ at. steps_now c.loop-from.place.level c.args.begin c.loop-from.from at c.loop-from-test.true (c.loop-from.invariant.later 0 at)) c.in_ok-shift_if.ensures.ok (c.loop-from.invariant.shows counts shows);
    }

pub returns-clause-ok : goal.returns-clause-ok
returns-clause-ok c = λ counts shows. life_done (comes c.args.way) c.args.place.now (λ n at. steps n c.args.begin at) counts c.loop-from.place.level c.loop-from.self
    (no_steps_above c.loop-from.place.level c.args.begin c.loop-from.from c.loop-from-test.false c.loop-from.invariant.later) (c.loop-from.invariant.shows counts shows)

pub returns-clause-rest : goal.returns-clause-rest
returns-clause-rest c = λ k. rest_here c.loop-from.place.level k c.args.begin c.loop-from.from c.loop-from-test.false c.loop-from.invariant.rest c.loop-from.invariant.earlier
