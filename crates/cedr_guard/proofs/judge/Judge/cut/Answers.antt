use Rattle.std.proofs.Common.{[], get_or, set, refl, ap, sym, ◌∙◌, arith}
use Rattle.cedr_base.specs.declared.row.Row.{Row}
use Rattle.cedr_base.specs.declared.interval.Interval.{Interval}
use Rattle.cedr_guard.specs.Judging.{guarantee_of, retraction_fault}
use Rattle.cedr_guard.specs.History.{rows_among}
use Rattle.cedr_guard.proofs.StandingLemmas.{stands-retract, event_here, interval_here, shorter}
use Rattle.cedr_guard.proofs.judge.Judge.cut.Goals as goal

pub index_mut-requires : goal.index_mut-requires
index_mut-requires c = omega (arith, c.requires, c.args.self.now.intervals.ok.0)

pub returns : goal.returns
returns c = λ before id stands at none.
    let no_row : Row = record { end = 0; begin = 0; payload = [] } in
    let row = get_or (rows_among before) c.args.place no_row in
    let there = stands.places id ∙ at in
    let here = interval_here c.args.self.now before id c.args.place no_row c.index_mut.result.now stands there in
    let fault = ap (λ event. retraction_fault event c.args.end (guarantee_of before)) (sym (event_here c.args.self.now before id c.args.place no_row stands there)) ∙ none in
    let low = shorter row c.args.end (guarantee_of before) fault in
    stands-retract c.args.self.now _ before id c.args.end c.args.place no_row stands at
    (omega (arith, low))
    (ap (λ (i : Interval). set c.args.self.now.intervals.items c.args.place (record { begin = i.begin; end = c.args.end })) (c.index_mut.ensures.value ∙ here))
    (λ q. refl) refl
