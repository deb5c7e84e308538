use Rattle.std.proofs.Common.{◌∙◌, sym, arith}
use Rattle.std.specs.List.{filter}
use Rattle.op_group.specs.Groups.{lives_at}
use Rattle.op_group.specs.Cuts.{segment_shifted}
use Rattle.op_group.specs.Measures.{extremes_of}
use Rattle.op_group.proofs.ShiftLemmas.{none_done, not_reached, one_more, all_done}
use Rattle.op_group.proofs.cuts.shift_between.Goals as goal

pub loop-at-init : goal.loop-at-init
loop-at-init c = record {
  after = omega arith;
  shifted = λ old new passes tells have. (
    λ u late early low. absurd (omega arith),
    none_done c.args.cuts.now.entries (λ t. segment_shifted c.args.passing.now.up c.args.passing.now.numbers (extremes_of c.args.asked.now (filter (lives_at t) new))) c.args.from,
  );
}

pub loop-at-preserved : goal.loop-at-preserved
loop-at-preserved c =
    let after = c.loop-at.invariant.after in
    let next = c.cut_from-at.ensures in
    let over = next.after in
    let less = c.loop-at-test.true in
    record {
      after = omega arith;
      shifted = λ old new passes tells have.
          let was = c.loop-at.invariant.shifted old new passes tells have in
          let same = not_reached c.args.cuts.now.entries c.loop-at.cuts.entries c.args.cuts.now.entries (λ t. segment_shifted c.args.passing.now.up c.args.passing.now.numbers (extremes_of c.args.asked.now (filter (lives_at t) new))) c.args.from c.loop-at.at c.cut_from-at.result after (omega arith) was.1 in
          let edit = c.in_ok-shift_at.ensures (filter (lives_at c.loop-at.at) old) (filter (lives_at c.loop-at.at) new) (passes c.loop-at.at after less) (tells c.loop-at.at after less) (λ s found. have c.loop-at.at after less s (sym same ∙ found)) in (
            λ u late early low. next.none u (omega arith) early,
            one_more c.args.cuts.now.entries c.loop-at.cuts.entries c.shift_at.new.cuts.entries (λ t. segment_shifted c.args.passing.now.up c.args.passing.now.numbers (extremes_of c.args.asked.now (filter (lives_at t) new))) c.args.from c.loop-at.at c.cut_from-at.result after (omega arith) was.1
                edit (λ u above before. next.none u above before),
          );
    }

pub returns : goal.returns
returns c = λ old new passes tells have.
    let was = c.loop-at.invariant.shifted old new passes tells have in
    all_done c.args.cuts.now.entries c.loop-at.cuts.entries (λ t. segment_shifted c.args.passing.now.up c.args.passing.now.numbers (extremes_of c.args.asked.now (filter (lives_at t) new))) c.args.from c.args.to c.loop-at.at c.loop-at-test.false was.0 was.1
