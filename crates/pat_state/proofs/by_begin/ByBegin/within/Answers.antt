use Rattle.std.proofs.Common.{◌≡◌, ◌∙◌, ap, max, true}
use Rattle.std.specs.List.{filter}
use Rattle.std.specs.BTreeMap.Range.{range_contains}
use Rattle.std.specs.declared.ops.Bound.TheVariants.{Included, Excluded}
use Rattle.std.proofs.lemmas.List.Elements.{All-same, filter_passes}
use Rattle.cedr_base.specs.Rows.{row_cmp}
use Rattle.cedr_table.specs.Counted.{spread}
use Rattle.pat_state.specs.Starts.{begins_within}
use Rattle.pat_state.proofs.WithinLemmas.{first_from, within_is, part_within}
use Rattle.pat_state.proofs.by_begin.ByBegin.within.Goals as goal

pub returns-clause-rows : goal.returns-clause-rows
returns-clause-rows c =
    let high : c.first_at-high.result ≡ first_from (max c.args.from c.args.before) = c.first_at-high.ensures ∙ ap first_from c.max.ensures in
    c.range.ensures.rows tt
    ∙ ((λ i. filter (range_contains row_cmp (Included (c.first_at-low.ensures i)) (Excluded (high i))) c.self.inside.rows)
    ∙ (within_is c.args.from c.args.before c.self.inside.rows c.self.invariant
    ∙ ap (filter (begins_within c.args.from c.args.before)) c.self.view_is))

pub returns-clause-within : goal.returns-clause-within
returns-clause-within c =
    part_within c.args.from c.args.before c.range.result (c.range.ensures.copies tt)
    (All-same (λ r. begins_within c.args.from c.args.before r ≡ true) (spread c.range.result) (filter (begins_within c.args.from c.args.before) c.args.self.now) (returns-clause-rows c) (filter_passes (begins_within c.args.from c.args.before) c.args.self.now))
