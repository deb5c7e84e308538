use Rattle.std.proofs.Common.{ℕ, true, ap, subst}
use Rattle.std.proofs.lemmas.Result.{on_ok_weaker}
use Rattle.cedr_living.specs.declared.place.Place.{Place}
use Rattle.cedr_living.specs.Indexes.{Changes}
use Rattle.cedr_living.proofs.index.Index.add.Goals as goal

pub returns : goal.returns
returns c =
    let place = c.into_place-place.ensures in
    on_ok_weaker c.change.result
    (λ change. subst (λ (column : ℕ). Changes true c.args.self.now c.change.new.self (record { column = column; begin = c.args.life.begin; end = c.args.life.end; field = c.args.life.field }))
    (ap (λ (p : Place). p.column) place) (change c.args.life.field (ap (λ (p : Place). p.field) place)))
    c.change.ensures.ok
