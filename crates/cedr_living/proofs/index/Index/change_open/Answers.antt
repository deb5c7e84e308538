use Rattle.std.proofs.Common.{refl}
use Rattle.std.proofs.lemmas.Result.{on_ok_weaker}
use Rattle.cedr_living.specs.Indexes.{comes}
use Rattle.cedr_living.proofs.CutLemmas.{rest_shows}
use Rattle.cedr_living.proofs.index.Index.change_open.Goals as goal

pub returns-clause-rests : goal.returns-clause-rests
returns-clause-rests c = on_ok_weaker c.shift.result
    (λ shift counts shows. rest_shows (comes c.args.way) c.args.place.now (record { column = c.shift_open.new.place.column; level = c.shift_open.new.place.level; at = 1; field = c.shift_open.new.place.field }) c.args.begin c.shift.new.self counts
    c.in_ok-shift_open.ensures.column c.in_ok-shift_open.ensures.field refl c.in_ok-shift_open.ensures.rest (shift counts shows))
    c.shift.ensures.ok
