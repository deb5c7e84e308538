use Rattle.std.proofs.Common.{◌+◌, arith}
use Rattle.std.specs.List.{filter}
use Rattle.std.proofs.lemmas.Result.{on_ok_weaker}
use Rattle.op_group.specs.Groups.{lives_at}
use Rattle.op_group.specs.Cuts.{one_at, StaysBetweenCuts}
use Rattle.op_group.specs.Measures.{no_totals, extremes_of}
use Rattle.op_group.proofs.Shown.{stays_more, shift_shows, have_extremes, shown_up}
use Rattle.op_group.proofs.cuts.add_row.Goals as goal

pub returns : goal.returns
returns c = on_ok_weaker c.shift_between.result
    (λ moved old new passes tells edges living tally shows stays extremes.
    let empty = no_totals c.args.asked.now in
    let one = c.in_ok-add_edge.ensures edges living tally shows stays in
    let wider : StaysBetweenCuts (no_totals c.args.asked.now) (λ t. edges t + one_at c.args.begin t) living tally = stays_more (no_totals c.args.asked.now) edges (λ t. edges t + one_at c.args.begin t) living tally (λ t. omega arith) stays in
    let two = c.in_ok-add_edge-2.ensures (λ t. edges t + one_at c.args.begin t) living tally one wider in
    shown_up _ c.args.begin c.args.end c.args.passing.now.up c.requires.comes c.args.passing.now.numbers (λ t. extremes_of c.args.asked.now (filter (lives_at t) new)) (λ t. edges t + one_at c.args.begin t + one_at c.args.end t) living tally
    (shift_shows _ _ c.args.begin c.args.end c.args.passing.now.up c.args.passing.now.numbers (λ t. extremes_of c.args.asked.now (filter (lives_at t) new)) (λ t. edges t + one_at c.args.begin t + one_at c.args.end t) living tally two
    (moved old new passes tells (have_extremes _ c.args.asked.now c.args.begin c.args.end old (λ t. edges t + one_at c.args.begin t + one_at c.args.end t) living tally two extremes))))
    c.shift_between.ensures
