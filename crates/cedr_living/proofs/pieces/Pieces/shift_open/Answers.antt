use Rattle.std.proofs.Common.{refl}
use Rattle.std.proofs.lemmas.Result.{on_ok_weaker}
use Rattle.cedr_living.specs.Indexes.{comes}
use Rattle.cedr_living.proofs.CutLemmas.{open_shows}
use Rattle.cedr_living.proofs.pieces.Pieces.shift_open.Goals as goal

pub returns-clause-ok : goal.returns-clause-ok
returns-clause-ok c = on_ok_weaker c.shift_steps.result
    (λ second counts shows. open_shows (comes c.args.way) (record { column = c.args.place.now.column; level = 0; at = c.args.place.now.at; field = c.args.place.now.field }) c.shift_if.new.place c.args.begin c.shift_if.new.self c.shift_steps.new.self counts refl
    c.in_ok-shift_if.ensures.column c.in_ok-shift_if.ensures.field second (c.in_ok-shift_if.ensures.ok counts shows))
    c.shift_steps.ensures.ok
