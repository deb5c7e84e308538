use Rattle.std.proofs.Common.{◌++◌, ◌∙◌, ap, sym}
use Rattle.std.proofs.lemmas.Result.{on_ok_weaker}
use Rattle.std.proofs.lemmas.List.{append-nil}
use Rattle.pat_state.specs.Steps.{stage_tests}
use Rattle.pat_state.proofs.FindLemmas.{next_copies, no_copies}
use Rattle.pat_state.proofs.matches.push_next.Goals as goal

pub returns-then-follows : goal.returns-then-follows
returns-then-follows c = on_ok_weaker c.push_joined.result
    (λ is. is ∙ ap (λ rows. c.args.rows.now.items ++ rows) (sym (next_copies (stage_tests c.args.stage c.args.tests.now) c.args.so_far.now c.args.row.now c.args.count (sym c.follows.ensures ∙ c.if-follows.true))))
    c.push_joined.ensures

pub returns-else-follows : goal.returns-else-follows
returns-else-follows c =
    sym (ap (λ rows. c.args.rows.now.items ++ rows) (no_copies (stage_tests c.args.stage c.args.tests.now) c.args.so_far.now c.args.row.now c.args.count (sym c.follows.ensures ∙ c.if-follows.false)) ∙ append-nil c.args.rows.now.items)
