use Rattle.std.proofs.Common.{◌≡◌, ◌++◌, replicate, sym, subst, List}
use Rattle.std.specs.Prelude.{map}
use Rattle.std.specs.List.{filter}
use Rattle.cedr_base.specs.declared.row.Row.{Row}
use Rattle.cedr_base.specs.Rows.{count_of, SameRows}
use Rattle.cedr_table.proofs.FilterLemmas.{one_goes, none_goes, fewer_left}
use Rattle.cedr_expr.specs.Tags.{left_tag, right_tag}
use Rattle.pat_state.specs.Starts.{scope_reaches}
use Rattle.pat_state.specs.Tags.{marked}
use Rattle.pat_state.proofs.TagLemmas.{with_tag, none_marked, tagged_copies}
use Rattle.pat_state.proofs.crossing.forget_crossed.Goals as goal

pub loop-row-smaller : goal.loop-row-smaller
loop-row-smaller c = let out = c.in-Some.ensures.taken in fewer_left c.in-Some.row c.in-Some.field-0-1 c.loop-row.rows c.pop_passed.new.self out.1 out.3

pub loop-row-preserved : goal.loop-row-preserved
loop-row-preserved c =
    let out = c.in-Some.ensures.taken in
    let was = c.loop-row.invariant in
    let first = left_tag c.args.width c.args.tests.now in
    let second = right_tag c.args.width c.args.tests.now in
    let left = c.pop_passed.new.self in
    record {
      same = one_goes (scope_reaches c.args.scope c.args.time) c.args.rows.now c.loop-row.rows c.pop_passed.new.self (c.in-Some.row, c.in-Some.field-0-1) out was.same;
      first = record {
        same = c.remove_copies-row.ensures.left c.in-Some.field-0-1 (map (with_tag first) left) (none_marked first c.side_tag-first.result c.in-Some.row left c.in-Some.ensures.alone)
            (tagged_copies first c.side_tag-first.result c.in-Some.field-0-1 c.in-Some.row c.loop-row.rows left c.loop-row.first_tags (sym c.side_tag-first.ensures) was.first out.3);
      };
      second = record {
        same = c.remove_copies.ensures.left c.in-Some.field-0-1 (map (with_tag second) left)
            (subst (λ (r : Row). count_of (marked c.side_tag-second.result r) (map (with_tag (right_tag c.args.width c.args.tests.now)) c.pop_passed.new.self) ≡ 0) (sym c.remove_copies-row.ensures.row)
            (none_marked second c.side_tag-second.result c.in-Some.row left c.in-Some.ensures.alone))
            (subst (λ (r : Row). SameRows c.loop-row.second_tags (replicate c.in-Some.field-0-1 (marked c.side_tag-second.result r) ++ map (with_tag (right_tag c.args.width c.args.tests.now)) c.pop_passed.new.self)) (sym c.remove_copies-row.ensures.row)
            (tagged_copies second c.side_tag-second.result c.in-Some.field-0-1 c.in-Some.row c.loop-row.rows left c.loop-row.second_tags (sym c.side_tag-second.ensures) was.second out.3));
      };
    }

pub returns-clause-left : goal.returns-clause-left
returns-clause-left c =
    let out = c.in_default.ensures.taken in
    subst (λ (rows : List Row). SameRows rows (filter (scope_reaches c.args.scope c.args.time) c.args.rows.now)) (sym out.0) (none_goes (scope_reaches c.args.scope c.args.time) c.args.rows.now c.loop-row.rows out.1 c.loop-row.invariant.same)
