use Rattle.std.proofs.lemmas.Result.{on_ok_weaker}
use Rattle.cedr_living.specs.Indexes.{comes}
use Rattle.cedr_living.proofs.IndexLemmas.{closed_change}
use Rattle.cedr_living.proofs.index.Index.change.Goals as goal

pub returns-then-end-lt-FOREVER-clause-ok : goal.returns-then-end-lt-FOREVER-clause-ok
returns-then-end-lt-FOREVER-clause-ok c = on_ok_weaker c.shift_life.result
    (λ shift field is. closed_change (comes c.args.way) (record { column = c.args.place.now.column; begin = c.args.begin; end = c.args.end; field = field }) c.args.place.now.field c.args.self.now c.shift_life.new.self c.if-end-lt-FOREVER.true is shift)
    c.shift_life.ensures.ok
