use Rattle.std.proofs.Common.{◌≡◌, ◌+◌, ◌++◌, ◌∙◌, ap, sym, subst, ℕ, List}
use Rattle.std.proofs.lemmas.Result.{on_ok_weaker}
use Rattle.std.specs.BTreeMap.Range.{entries_between}
use Rattle.std.specs.Ordering.{nat_cmp}
use Rattle.std.specs.declared.ops.Bound.TheVariants.{Included}
use Rattle.cedr_base.specs.declared.row.Row.{Row}
use Rattle.change_laws.proofs.Moves.{may_is}
use Rattle.op_group.specs.Cuts.{IsFirstTouched, IsLastTouched, edges_taken, rows_of_cuts, differences}
use Rattle.op_group.proofs.Regions.{times_ascend}
use Rattle.op_group.proofs.Turning.{turned_between}
use Rattle.op_group.proofs.Answered.{last_row}
use Rattle.op_group.proofs.group.answer_in.Goals as goal

pub returns-clause-answers : goal.returns-clause-answers
returns-clause-answers c = on_ok_weaker c.push_differences.result
    (λ e old new mark from shows kept told may moved late old_rows new_rows.
    let change = c.args.change.now in
    let cuts = c.args.cuts.now.entries in
    let cuts' = c.change_cuts.new.cuts.entries in
    let lo = c.first_touched-from.result in
    let hi = c.last_touched-to.result in
    let olds_are = c.as_slice.ensures.value ∙ c.in_ok-olds.ensures.made in
    let news_are = c.as_slice-2.ensures.value ∙ c.in_ok-news.ensures.made in
    let end = ap (λ (r : Row). r.end) c.row.ensures ∙ last_row c.args.change.now in
    let first = subst (λ (t : ℕ). IsFirstTouched c.args.cuts.now.entries t (edges_taken c.args.change.now) c.first_touched-from.result) c.sync.ensures
    (subst (λ (n : ℕ). IsFirstTouched c.args.cuts.now.entries c.sync.result n c.first_touched-from.result) c.edges_taken-taken.ensures c.first_touched-from.ensures.touched) in
    let last = subst (λ (t : ℕ). IsLastTouched c.args.cuts.now.entries t (edges_taken c.args.change.now) c.last_touched-to.result) end
    (subst (λ (n : ℕ). IsLastTouched c.args.cuts.now.entries c.row.result.now.end n c.last_touched-to.result) c.edges_taken-taken.ensures c.last_touched-to.ensures.touched) in
    record {
      olds = rows_of_cuts c.args.count c.args.key.now (entries_between nat_cmp (Included c.first_touched-from.result) (Included c.last_touched-to.result) c.args.cuts.now.entries);
      news = rows_of_cuts c.args.count c.args.key.now (entries_between nat_cmp (Included c.first_touched-from.result) (Included c.last_touched-to.result) c.change_cuts.new.cuts.entries);
      appended = e ∙ (ap (λ rows. c.args.out.now.items ++ differences rows c.as_slice-2.result.now) olds_are ∙ ap (λ rows. c.args.out.now.items ++ differences (rows_of_cuts c.args.count c.args.key.now (entries_between nat_cmp (Included c.first_touched-from.result) (Included c.last_touched-to.result) c.args.cuts.now.entries)) rows) news_are);
      turned = turned_between c.args.count c.args.asked.now c.args.key.now c.args.change.now old new c.args.cuts.now.entries c.change_cuts.new.cuts.entries c.first_touched-from.result c.last_touched-to.result
          (may_is old Rattle.std.proofs.Common.[] c.args.change.now may) moved old_rows new_rows (times_ascend c.args.cuts.now.entries c.rows_between.ensures.ordered) (times_ascend c.change_cuts.new.cuts.entries c.rows_between-2.ensures.ordered) mark from shows (c.in_ok-change_cuts.ensures old new mark from shows kept told may moved late) first last late;
    })
    c.push_differences.ensures.ok
