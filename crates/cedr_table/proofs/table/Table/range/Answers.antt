use Rattle.std.proofs.Common.{◌∙◌, ap}
use Rattle.std.specs.List.{filter}
use Rattle.std.specs.BTreeMap.Range.{range_contains}
use Rattle.cedr_base.specs.Rows.{row_cmp}
use Rattle.cedr_table.specs.Counted.{spread}
use Rattle.cedr_table.proofs.RangeLemmas.{spread_filter, part_there}
use Rattle.cedr_table.proofs.table.Table.range.Goals as goal

pub returns-clause-rows : goal.returns-clause-rows
returns-clause-rows g c = λ bounds.
    let within = range_contains row_cmp (g.R.RangeBounds.start_bound c.args.range) (g.R.RangeBounds.end_bound c.args.range) in
    ap spread (c.range.ensures.between bounds)
    ∙ (spread_filter within c.self.inside.rows.entries
    ∙ ap (filter within) c.self.view_is)

pub returns-clause-copies : goal.returns-clause-copies
returns-clause-copies g c = λ bounds.
    part_there (g.R.RangeBounds.start_bound c.args.range) (g.R.RangeBounds.end_bound c.args.range) c.self.inside.rows c.range.result c.self.invariant.there (c.range.ensures.in_range bounds).0
