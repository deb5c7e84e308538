use Rattle.std.proofs.Common.{◌≡◌, ◌∙◌, ap, max, true}
use Rattle.std.proofs.lemmas.List.Elements.{All-same, filter_passes}
use Rattle.std.specs.List.{filter}
use Rattle.std.specs.BTreeMap.Range.{range_contains}
use Rattle.std.specs.declared.ops.Bound.TheVariants.{Included, Excluded}
use Rattle.cedr_base.specs.Rows.{row_cmp}
use Rattle.pat_state.specs.Tags.{has_tag_within}
use Rattle.cedr_table.specs.Counted.{spread}
use Rattle.pat_state.proofs.WithinLemmas.{first_tagged, tagged_is, tagged_within}
use Rattle.pat_state.proofs.by_tag.ByTag.within.Goals as goal

pub returns-clause-rows : goal.returns-clause-rows
returns-clause-rows c =
    let high : c.first_of-high.result ≡ first_tagged c.args.tag (max c.args.from c.args.before) = c.first_of-high.ensures ∙ ap (first_tagged c.args.tag) c.max.ensures in
    c.range.ensures.rows tt
    ∙ ((λ i. filter (range_contains row_cmp (Included (c.first_of-low.ensures i)) (Excluded (high i))) c.self.inside.rows)
    ∙ (tagged_is c.args.tag c.args.from c.args.before c.self.inside.rows
    ∙ ap (filter (has_tag_within c.args.tag c.args.from c.args.before)) c.self.view_is))

pub returns-clause-within : goal.returns-clause-within
returns-clause-within c =
    tagged_within c.args.tag c.args.from c.args.before c.range.result (c.range.ensures.copies tt)
    (All-same (λ r. has_tag_within c.args.tag c.args.from c.args.before r ≡ true) (spread c.range.result) (filter (has_tag_within c.args.tag c.args.from c.args.before) c.args.self.now) (returns-clause-rows c) (filter_passes (has_tag_within c.args.tag c.args.from c.args.before) c.args.self.now))
