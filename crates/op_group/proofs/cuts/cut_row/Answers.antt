use Rattle.std.proofs.Common.{◌+◌, ◌-◌, cond, arith}
use Rattle.std.specs.Prelude.{nat_lt, nat_le, ◌&&◌}
use Rattle.std.specs.List.{filter}
use Rattle.op_group.specs.Groups.{lives_at}
use Rattle.op_group.specs.Cuts.{one_at, tally_shifted}
use Rattle.op_group.specs.Measures.{extremes_of}
use Rattle.op_group.proofs.Shown.{shift_shows, shown_down, have_extremes, cut_begin}
use Rattle.op_group.proofs.cuts.cut_row.Goals as goal

pub returns : goal.returns
returns c = λ old new passes tells edges living tally shows stays extremes begins ends lives.
    let one = c.in_ok-add_earlier_end.ensures edges living tally shows stays in
    let two = shown_down _ c.args.earlier c.args.end c.args.passing.now.up c.requires.goes c.args.passing.now.numbers (λ t. extremes_of c.args.asked.now (filter (lives_at t) new)) (λ t. edges t + cond (nat_lt c.args.begin c.args.earlier) (one_at c.args.earlier t) 0) living tally
    (shift_shows _ _ c.args.earlier c.args.end c.args.passing.now.up c.args.passing.now.numbers (λ t. extremes_of c.args.asked.now (filter (lives_at t) new)) (λ t. edges t + cond (nat_lt c.args.begin c.args.earlier) (one_at c.args.earlier t) 0) living tally one
    (c.in_ok-shift_between.ensures old new passes tells (have_extremes _ c.args.asked.now c.args.earlier c.args.end old (λ t. edges t + cond (nat_lt c.args.begin c.args.earlier) (one_at c.args.earlier t) 0) living tally one extremes))) in
    let three = c.take_edge.ensures (λ t. edges t + cond (nat_lt c.args.begin c.args.earlier) (one_at c.args.earlier t) 0)
    (λ t. cond (nat_le c.args.earlier t && nat_lt t c.args.end) (living t - 1) (living t)) (λ t. cond (nat_le c.args.earlier t && nat_lt t c.args.end) (tally_shifted c.args.passing.now.numbers (extremes_of c.args.asked.now (filter (lives_at t) new)) (tally t)) (tally t)) two (omega arith) in
    c.take_begin.ensures (λ t. (edges t + cond (nat_lt c.args.begin c.args.earlier) (one_at c.args.earlier t) 0) - one_at c.args.end t)
    (λ t. cond (nat_le c.args.earlier t && nat_lt t c.args.end) (living t - 1) (living t)) (λ t. cond (nat_le c.args.earlier t && nat_lt t c.args.end) (tally_shifted c.args.passing.now.numbers (extremes_of c.args.asked.now (filter (lives_at t) new)) (tally t)) (tally t)) three
    (λ gone. cut_begin edges c.args.begin c.args.end _ (begins gone) lives)
