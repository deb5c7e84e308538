use Rattle.std.proofs.Common.{◌∙◌}
use Rattle.std.specs.List.{filter}
use Rattle.std.specs.BTreeMap.Range.{range_contains}
use Rattle.std.specs.declared.ops.Bound.TheVariants.{Excluded, Unbounded}
use Rattle.cedr_base.specs.Rows.{row_cmp}
use Rattle.filed_rows.proofs.SpanLemmas.{ended_is}
use Rattle.filed_rows.proofs.ranges.ended_by.Goals as goal

pub returns-clause-rows : goal.returns-clause-rows
returns-clause-rows c =
    c.range.ensures.rows tt
    ∙ ((λ i. filter (range_contains row_cmp Unbounded (Excluded (c.first_at.ensures i))) c.args.rows.now)
    ∙ ended_is c.args.time c.args.rows.now)
