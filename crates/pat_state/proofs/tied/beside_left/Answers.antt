use Rattle.std.proofs.Common.{◌≡◌, ◌∙◌, ap, length, sym}
use Rattle.std.specs.Prelude.{sum_by}
use Rattle.std.specs.List.{filter}
use Rattle.cedr_expr.specs.Tags.{right_tag}
use Rattle.pat_state.specs.Starts.{begins_within}
use Rattle.pat_state.specs.Tags.{has_tag_within}
use Rattle.pat_state.proofs.TagLemmas.{right_found, all_found, filter_inside}
use Rattle.pat_state.proofs.WithinLemmas.{scope_there}
use Rattle.pat_state.proofs.tied.beside_left.Goals as goal

pub returns-then-len-width-clause-there : goal.returns-then-len-width-clause-there
returns-then-len-width-clause-there c = scope_there c.args.from c.args.before c.within.result c.within.ensures.within

pub returns-then-len-width-clause-rows : goal.returns-then-len-width-clause-rows
returns-then-len-width-clause-rows c = λ rows weight tagged sought.
    let fits : length c.args.payload.now ≡ c.args.width = sym c.len.ensures ∙ c.if-len-width.true in
    let inside = begins_within c.args.from c.args.before in
    ap (λ found. sum_by weight (filter inside found)) c.within.ensures.rows
    ∙ (ap (sum_by weight) (filter_inside c.tag-tag.result c.args.from c.args.before c.args.tags.now ∙ ap (λ tag. filter (has_tag_within tag c.args.from c.args.before) c.args.tags.now) c.tag-tag.ensures)
    ∙ right_found c.args.tests.now c.args.width c.args.from c.args.before weight c.args.payload.now rows c.args.tags.now fits tagged sought)

pub returns-else-len-width-clause-rows : goal.returns-else-len-width-clause-rows
returns-else-len-width-clause-rows c = λ rows weight tagged sought.
    ap (λ found. sum_by weight (filter (begins_within c.args.from c.args.before) found)) c.all.ensures.rows
    ∙ all_found (right_tag c.args.width c.args.tests.now) c.args.from c.args.before weight rows c.args.tags.now tagged sought.endless
