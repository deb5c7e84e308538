use Rattle.std.proofs.Common.{◌≡◌, ◌++◌, ℕ, subst}
use Rattle.std.specs.List.{filter}
use Rattle.std.proofs.lemmas.Result.{on_ok_weaker}
use Rattle.cedr_base.specs.declared.row.Row.{Row}
use Rattle.cedr_base.specs.Changes.{changed_row}
use Rattle.cedr_table.specs.Counted.{spread}
use Rattle.filed_rows.specs.Filed.{right_partners}
use Rattle.filed_rows.specs.Spans.{lives_within}
use Rattle.op_except.proofs.RangeLemmas.{kept_along}
use Rattle.op_except.proofs.TurnedLemmas.{all_within}
use Rattle.op_except.proofs.turns.turn_spans.Goals as goal

pub returns-clause-ok : goal.returns-clause-ok
returns-clause-ok c = on_ok_weaker c.turn_range-2.result
    (λ second. all_within c.args.tests.now c.args.change.now (right_partners c.args.right.now.entries c.args.tag) (spread c.meeting-ending.result.0) (spread c.meeting-ending.result.1) c.args.rows.now c.args.out.now.items c.turn_range.new.out.items c.turn_range-2.new.out.items
    (subst (λ (n : ℕ). filter (lives_within n (changed_row c.args.change.now).end) (spread c.meeting-ending.result.0 ++ spread c.meeting-ending.result.1) ≡ filter (lives_within n (changed_row c.args.change.now).end) c.args.rows.now) c.sync.ensures
    (subst (λ (r : Row). filter (lives_within c.sync.result r.end) (spread c.meeting-ending.result.0 ++ spread c.meeting-ending.result.1) ≡ filter (lives_within c.sync.result r.end) c.args.rows.now) c.row.ensures c.meeting-ending.ensures.rows))
    c.in_ok-turn_range.ensures.ok second)
    c.turn_range-2.ensures.ok

pub returns-clause-kept : goal.returns-clause-kept
returns-clause-kept c = kept_along c.args.out.now.items c.turn_range.new.out.items c.turn_range-2.new.out.items c.turn_range.ensures.kept c.turn_range-2.ensures.kept
