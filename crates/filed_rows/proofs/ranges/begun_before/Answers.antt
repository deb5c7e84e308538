use Rattle.std.proofs.Common.{◌∙◌, ap, List}
use Rattle.std.specs.List.{filter}
use Rattle.std.specs.BTreeMap.Range.{range_contains}
use Rattle.std.specs.declared.ops.Bound.TheVariants.{Excluded, Unbounded}
use Rattle.cedr_base.specs.declared.time.TheConstants.{FOREVER}
use Rattle.cedr_base.specs.declared.field.Field.{Field}
use Rattle.cedr_base.specs.Rows.{row_cmp}
use Rattle.filed_rows.proofs.SpanLemmas.{begun_is}
use Rattle.filed_rows.proofs.ranges.begun_before.Goals as goal

pub returns-clause-rows : goal.returns-clause-rows
returns-clause-rows c =
    c.range.ensures.rows tt
    ∙ (ap (λ (p : List Field). filter (range_contains row_cmp Unbounded (Excluded (record { end = FOREVER; begin = c.args.time; payload = p }))) c.args.rows.now) c.new.ensures
    ∙ begun_is c.args.time c.args.rows.now c.requires)
