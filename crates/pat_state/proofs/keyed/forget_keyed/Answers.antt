use Rattle.std.proofs.Common.{sym, subst, List}
use Rattle.std.specs.Prelude.{map}
use Rattle.std.specs.List.{filter}
use Rattle.cedr_base.specs.declared.row.Row.{Row}
use Rattle.cedr_base.specs.Rows.{SameRows}
use Rattle.cedr_table.proofs.FilterLemmas.{one_goes, none_goes, fewer_left}
use Rattle.pat_state.specs.Starts.{scope_reaches}
use Rattle.pat_state.specs.Keys.{key_tag}
use Rattle.pat_state.proofs.TagLemmas.{with_tag, none_marked, tagged_copies}
use Rattle.pat_state.proofs.keyed.forget_keyed.Goals as goal

pub loop-row-smaller : goal.loop-row-smaller
loop-row-smaller c = let out = c.in-Some.ensures.taken in fewer_left c.in-Some.row c.in-Some.field-0-1 c.loop-row.rows c.pop_passed.new.self out.1 out.3

pub loop-row-preserved : goal.loop-row-preserved
loop-row-preserved c =
    let out = c.in-Some.ensures.taken in
    let was = c.loop-row.invariant in
    let tag = key_tag c.args.width c.args.column in
    record {
      same = one_goes (scope_reaches c.args.scope c.args.time) c.args.rows.now c.loop-row.rows c.pop_passed.new.self (c.in-Some.row, c.in-Some.field-0-1) out was.same;
      tagged = record {
        same = c.remove_copies.ensures.left c.in-Some.field-0-1 (map (with_tag tag) c.pop_passed.new.self) (none_marked tag c.key_tag-tag.result c.in-Some.row c.pop_passed.new.self c.in-Some.ensures.alone)
            (tagged_copies tag c.key_tag-tag.result c.in-Some.field-0-1 c.in-Some.row c.loop-row.rows c.pop_passed.new.self c.loop-row.tags (sym c.key_tag-tag.ensures) was.tagged out.3);
      };
    }

pub returns-clause-left : goal.returns-clause-left
returns-clause-left c =
    let out = c.in_default.ensures.taken in
    subst (λ (rows : List Row). SameRows rows (filter (scope_reaches c.args.scope c.args.time) c.args.rows.now)) (sym out.0) (none_goes (scope_reaches c.args.scope c.args.time) c.args.rows.now c.loop-row.rows out.1 c.loop-row.invariant.same)
