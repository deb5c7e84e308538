use Rattle.std.proofs.Common.{◌≡◌, ◌<◌, ◌≢◌, None, Some, length, slice_index_or, rules, sym}
use Rattle.plan_keys.specs.Keys.{column_at}
use Rattle.plan_key_choice.specs.Partial.{chosen_at}
use Rattle.plan_key_choice.proofs.Chosen.{among_next, extends_more, taken_back}
use Rattle.plan_key_choice.proofs.node.+keeps_within.Goals as goal

pub loop-column-preserved : goal.loop-column-preserved
loop-column-preserved t c =
    let old = c.args.choice.now in
    let input = c.in-Some.input in
    let items = c.deref-column-items.result.now in
    let k = c.loop-column.column-index in
    let column = slice_index_or items k 0 in
    let within : input < length old = search rules in
    let free : chosen_at old input ≡ None = search rules in
    let same = c.loop-column.invariant.same in
    record {
      same = taken_back old c.loop-column.choice c.keeps_within-in-loop-column.new.choice input (Some column) within free same c.in_ok-keeps.ensures.same;
      left = λ columns extends widths among keeps.
          let apart : column ≢ column_at columns input = λ is. c.in_ok-keeps.ensures.none (search rules) columns (extends_more old c.loop-column.choice columns input column within same extends (sym is)) widths among keeps in
          among_next items k column (column_at columns input) (search rules) (search rules) apart (c.loop-column.invariant.left columns extends widths among keeps);
    }
