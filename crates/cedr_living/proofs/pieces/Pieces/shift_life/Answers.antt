use Rattle.std.proofs.Common.{◌∙◌, suc, arith}
use Rattle.cedr_living.specs.Pieces.{pieces}
use Rattle.cedr_living.specs.Indexes.{comes}
use Rattle.cedr_living.proofs.CutLemmas.{left_above, left_here, none_above, level_done, life_done}
use Rattle.cedr_living.proofs.pieces.Pieces.shift_life.Goals as goal

pub loop-from-preserved : goal.loop-from-preserved
loop-from-preserved c =
    let level = c.shift_level.ensures.level in
    record {
      room = omega arith;
      column = c.shift_level.ensures.column ∙ c.loop-from.invariant.column;
      field = c.shift_level.ensures.field ∙ c.loop-from.invariant.field;
      later = λ k at. left_above c.loop-from.place.level _ k c.args.begin c.args.end c.loop-from.from c.loop-from.to at level c.loop-from-test.true (c.loop-from.invariant.later (suc k) at);
      shows = λ counts shows. level_done (comes c.args.way) c.args.place.now (λ n at. pieces n c.args.begin c.args.end at) counts (λ at. pieces 0 c.loop-from.from c.loop-from.to at) c.loop-from.place _ c.loop-from.self _ level c.loop-from.invariant.column c.loop-from.invariant.field
          (λ at. left_here c.loop-from.place.level c.args.begin c.args.end c.loop-from.from c.loop-from.to at (c.loop-from.invariant.later 0 at)) c.in_ok-shift_level.ensures.ok (c.loop-from.invariant.shows counts shows);
    }

pub returns-clause-ok : goal.returns-clause-ok
returns-clause-ok c = λ counts shows. life_done (comes c.args.way) c.args.place.now (λ n at. pieces n c.args.begin c.args.end at) counts c.loop-from.place.level c.loop-from.self
    (none_above c.loop-from.place.level c.args.begin c.args.end c.loop-from.from c.loop-from.to c.loop-from-test.false c.loop-from.invariant.later) (c.loop-from.invariant.shows counts shows)
