use Rattle.std.proofs.Common.{◌+◌, ◌∙◌, ap}
use Rattle.std.specs.Prelude.{sum_by}
use Rattle.std.specs.List.{filter}
use Rattle.pat_state.specs.Tags.{has_tag_within}
use Rattle.pat_state.proofs.TagLemmas.{left_found}
use Rattle.pat_state.proofs.tied.beside_right.Goals as goal

pub returns-clause-rows : goal.returns-clause-rows
returns-clause-rows c = λ rows weight tagged_are sought.
    let tagged = c.within-tagged.ensures.rows ∙ ap (λ tag. filter (has_tag_within tag c.args.from c.args.before) c.args.tags.now) c.tag-tag.ensures in
    (λ i. sum_by weight (tagged i) + sum_by weight (c.within-others.ensures.rows i))
    ∙ left_found c.args.tests.now c.args.width c.args.from c.args.before weight c.args.payload.now rows c.args.tags.now tagged_are sought
