use Rattle.std.proofs.Common.{◌≡◌, false, Bool, ap, sym, subst, arith}
use Rattle.cedr_living.specs.Counts.{CountsOne}
use Rattle.cedr_living.specs.Indexes.{comes, place_cmp}
use Rattle.cedr_living.proofs.ShowLemmas.{shift_shows}
use Rattle.cedr_living.proofs.pieces.Pieces.shift.Goals as goal

pub returns-in-Out-clause-ok : goal.returns-in-Out-clause-ok
returns-in-Out-clause-ok c =
    let goes : comes c.args.way ≡ false = ap comes c.in-Out.is in
    shift_shows (comes c.args.way) c.args.place.now c.args.self.now _ (subst (λ (up : Bool). CountsOne up place_cmp c.args.place.now c.args.self.now.counts.entries c.lower.new.counts.entries) (sym goes) c.lower.ensures) (omega arith) (omega arith) (λ up. cc)
