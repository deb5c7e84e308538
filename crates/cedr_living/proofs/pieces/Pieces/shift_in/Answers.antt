use Rattle.std.proofs.Common.{true, arith, subst}
use Rattle.cedr_living.specs.declared.place.Place.{Place}
use Rattle.cedr_living.specs.Counts.{CountsOne}
use Rattle.cedr_living.specs.Indexes.{place_cmp}
use Rattle.cedr_living.proofs.ShowLemmas.{shift_shows}
use Rattle.cedr_living.proofs.pieces.Pieces.shift_in.Goals as goal

pub returns : goal.returns
returns c =
    let one = subst (λ (place : Place). CountsOne true place_cmp place c.args.self.now.counts.entries c.raise.new.counts.entries) c.in_ok-copied.ensures c.in_ok-raise.ensures in
    shift_shows true c.args.place.now c.args.self.now _ one (omega arith) (omega arith) (λ up. (omega arith, omega arith))
