use Rattle.std.proofs.Common.{◌∙◌}
use Rattle.std.specs.List.{filter}
use Rattle.std.specs.BTreeMap.Range.{range_contains}
use Rattle.std.specs.declared.ops.Bound.TheVariants.{Included, Excluded}
use Rattle.cedr_base.specs.Rows.{row_cmp}
use Rattle.filed_rows.proofs.SpanLemmas.{within_is}
use Rattle.filed_rows.proofs.ranges.ending_within.Goals as goal

pub returns-clause-rows : goal.returns-clause-rows
returns-clause-rows c =
    c.range.ensures.rows tt
    ∙ ((λ i. filter (range_contains row_cmp (Included (c.first_at.ensures i)) (Excluded (c.first_at-2.ensures i))) c.args.rows.now)
    ∙ within_is c.args.time c.args.last c.args.rows.now)
