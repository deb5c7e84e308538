use Rattle.std.proofs.lemmas.Result.{on_ok_weaker}
use Rattle.cedr_living.specs.Indexes.{comes}
use Rattle.cedr_living.proofs.CutLemmas.{level_shows}
use Rattle.cedr_living.proofs.pieces.Pieces.shift_level.Goals as goal

pub returns-clause-ok : goal.returns-clause-ok
returns-clause-ok c = on_ok_weaker c.shift_if-2.result
    (λ second counts shows. level_shows (comes c.args.way) c.args.place.now c.shift_if.new.place c.args.begin c.args.end c.shift_if.new.self c.shift_if-2.new.self counts c.requires.lives c.in_ok-shift_if.ensures.column c.in_ok-shift_if.ensures.level c.in_ok-shift_if.ensures.field second (c.in_ok-shift_if.ensures.ok counts shows))
    c.shift_if-2.ensures.ok
