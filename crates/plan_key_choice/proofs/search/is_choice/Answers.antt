use Rattle.std.proofs.Common.{◌-◌, ◌<◌, ◌≤◌, ℕ, length, arith, rules}
use Rattle.plan_keys.specs.Keys.{column_at, width_at}
use Rattle.plan_key_choice.specs.Choices.{AreInWidths, KeepsKeyAt}
use Rattle.plan_key_choice.specs.Partial.{chosen_columns}
use Rattle.plan_key_choice.proofs.Chosen.{is_wide, not_wide, up_to}
use Rattle.plan_key_choice.proofs.Places.{keyed_at, keyed_from_each}
use Rattle.plan_key_choice.proofs.search.is_choice.Goals as goal
use Rattle.plan_key_choice.proofs.search.is_choice.Goals.{then-not-is_in_width-via-then-not-is_in_width, then-not-is_in_width-via-else-not-is_in_width+in_ok-may_keep_at+then-not-branch}

pub returns-then-not-is_in_width-clause-none : goal.returns-then-not-is_in_width-clause-none
returns-then-not-is_in_width-clause-none c = λ no columns extends widths keyed.
    let within : c.loop-place.place < length c.args.choice.now = omega (arith, c.loop-place-test.true, c.requires.count) in
    elim c.then-not-is_in_width.branch [
      | then-not-is_in_width-via-then-not-is_in_width w ↦
          not_wide c.args.choice.now columns c.args.nodes.now c.loop-place.place c.is_in_width.result c.loop-place-test.true (c.requires.chosen c.loop-place.place within) c.is_in_width.ensures extends widths (search rules)
      | then-not-is_in_width-via-else-not-is_in_width+in_ok-may_keep_at+then-not-branch w ↦
          w.in_ok-may_keep_at.ensures.none (search rules) columns extends widths (keyed_at columns c.args.nodes.now c.loop-place.place keyed c.loop-place-test.true)
    ]

pub returns-clause-keyed : goal.returns-clause-keyed
returns-clause-keyed c = λ yes.
    let widths : AreInWidths (chosen_columns c.args.choice.now) c.args.nodes.now = λ k h. c.loop-place.invariant.widths k (omega arith) in
    keyed_from_each (chosen_columns c.args.choice.now) c.args.nodes.now (λ k h. c.loop-place.invariant.keeps k (omega arith) widths)

pub loop-place-preserved : goal.loop-place-preserved
loop-place-preserved c =
    let choice = c.args.choice.now in
    let nodes = c.args.nodes.now in
    let place = c.loop-place.place in
    let within : place < length choice = omega (arith, c.loop-place-test.true, c.requires.count) in
    record {
      widths = up_to place (λ (k : ℕ). column_at (chosen_columns choice) k ≤ width_at nodes k - 1) c.loop-place.invariant.widths (is_wide choice nodes place c.is_in_width.result (c.requires.chosen place within) c.is_in_width.ensures (search rules));
      keeps = up_to place (λ (k : ℕ). AreInWidths (chosen_columns choice) nodes → KeepsKeyAt (chosen_columns choice) nodes k) c.loop-place.invariant.keeps (c.in_ok-may_keep_at.ensures.keeps (search rules) c.requires.chosen);
    }
