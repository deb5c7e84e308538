use Rattle.std.proofs.Common.{refl, ap, set, sym, arith}
use Rattle.cedr_base.specs.declared.interval.Interval.{Interval}
use Rattle.cedr_guard.proofs.StandingLemmas.{stands-revise}
use Rattle.cedr_guard.proofs.judge.Judge.replace.Goals as goal

pub index_mut-requires : goal.index_mut-requires
index_mut-requires c = omega (arith, c.requires, c.args.self.now.intervals.ok.0)

pub returns : goal.returns
returns c = λ before id row stands at is.
    stands-revise c.args.self.now _ before id c.args.place row stands at
    (ap (λ (i : Interval). set c.args.self.now.intervals.items c.args.place i) (sym is))
    (λ q. refl) refl
