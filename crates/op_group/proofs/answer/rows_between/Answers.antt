use Rattle.std.proofs.Common.{◌≡◌, ◌++◌, ◌∙◌, ap, sym, subst, List}
use Rattle.std.proofs.lemmas.List.{append-nil}
use Rattle.std.specs.BTreeMap.Range.{entries_between}
use Rattle.std.specs.Ordering.{nat_cmp}
use Rattle.std.specs.declared.ops.Bound.TheVariants.{Included}
use Rattle.std.specs.List.Sorted.{IsSorted}
use Rattle.cedr_base.specs.declared.row.Row.{Row}
use Rattle.cedr_base.specs.Rows.{row_cmp}
use Rattle.op_group.specs.Cuts.{rows_after, rows_of_cuts}
use Rattle.op_group.proofs.Regions.{rows_sorted}
use Rattle.op_group.proofs.answer.rows_between.Goals as goal

pub returns-clause-sorted : goal.returns-clause-sorted
returns-clause-sorted c =
    let made : c.loop-at.rows.items ≡ rows_of_cuts c.args.counted c.args.key.now (entries_between nat_cmp (Included c.args.from) (Included c.args.to) c.args.cuts.now.entries) =
    sym (append-nil c.loop-at.rows.items) ∙ (ap (λ cuts. c.loop-at.rows.items ++ rows_after c.args.counted c.args.key.now c.loop-at.open cuts) (sym c.in-None.ensures.steps.0) ∙ c.loop-at.invariant) in
    subst (λ (rows : List Row). IsSorted row_cmp rows) (sym made) (rows_sorted c.args.counted c.args.key.now c.args.from c.args.to c.args.cuts.now.entries c.range-at-items.ensures.ordered)
