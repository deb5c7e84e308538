use Rattle.std.proofs.Common.{◌++◌, ◌∙◌, ap, sym, arith}
use Rattle.std.specs.List.{flat_map}
use Rattle.std.proofs.lemmas.Result.{on_ok_weaker}
use Rattle.pat_state.specs.Steps.{stage_tests, next_passing}
use Rattle.pat_state.proofs.FindLemmas.{at_same, before_rows, behind_rows}
use Rattle.pat_state.specs.Groups.{seen}
use Rattle.pat_state.proofs.matches.push_port.Goals as goal

pub returns-then-place-changed : goal.returns-then-place-changed
returns-then-place-changed c = on_ok_weaker c.push_next.result
    (λ is. is ∙ ap (λ rows. c.args.rows.now.items ++ flat_map (next_passing (stage_tests c.args.stage c.args.tests.now) c.args.so_far.now) rows) (sym (at_same c.args.row.now c.args.changed c.args.place (seen c.args.tag c.args.kept.now) c.if-place-changed.true)))
    c.push_next.ensures

pub returns-then-place-changed-2 : goal.returns-then-place-changed-2
returns-then-place-changed-2 c = on_ok_weaker c.push_before.result
    (λ is. is ∙ ap (λ rows. c.args.rows.now.items ++ rows) (before_rows (stage_tests c.args.stage c.args.tests.now) c.args.row.now c.args.so_far.now c.args.changed c.args.place c.min-before.result (seen c.args.tag c.args.kept.now) c.min-before.ensures c.if-place-changed-2.true))
    c.push_before.ensures

pub returns-else-place-changed-2 : goal.returns-else-place-changed-2
returns-else-place-changed-2 c = on_ok_weaker c.push_before-else-place-changed-2.result
    (λ is. is ∙ ap (λ rows. c.args.rows.now.items ++ rows) (behind_rows (stage_tests c.args.stage c.args.tests.now) c.args.row.now c.args.so_far.now c.args.changed c.args.place (seen c.args.tag c.args.kept.now) (let behind = c.if-place-changed-2.false in let other = c.if-place-changed.false in omega arith)))
    c.push_before-else-place-changed-2.ensures
