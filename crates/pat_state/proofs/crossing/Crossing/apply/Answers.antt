use Rattle.std.proofs.Common.{◌≡◌, ◌∙◌, ap, sym}
use Rattle.std.proofs.lemmas.Result.{on_ok_weaker}
use Rattle.cedr_base.specs.declared.row.Row.{Row}
use Rattle.cedr_base.specs.Changes.{changed_row}
use Rattle.cedr_expr.specs.Tags.{left_tag, right_tag}
use Rattle.pat_state.proofs.TagLemmas.{marked_there, tagged_step}
use Rattle.pat_state.proofs.crossing.Crossing.apply.Goals as goal

pub apply_tagged-requires : goal.apply_tagged-requires
apply_tagged-requires c =
    let at : left_tag c.args.width c.args.tests.now (changed_row c.args.change.now).payload ≡ c.side_tag-first.result = ap (λ (r : Row). left_tag c.args.width c.args.tests.now r.payload) (sym c.row.ensures) ∙ sym c.side_tag-first.ensures in
    marked_there (left_tag c.args.width c.args.tests.now) c.side_tag-first.result c.args.change.now c.args.self.now.rows c.args.self.now.first_tags at c.requires.crossed.first_are c.requires.there

pub apply_tagged-requires-2 : goal.apply_tagged-requires-2
apply_tagged-requires-2 c =
    let at : right_tag c.args.width c.args.tests.now (changed_row c.args.change.now).payload ≡ c.side_tag-second.result = ap (λ (r : Row). right_tag c.args.width c.args.tests.now r.payload) (sym c.row.ensures) ∙ sym c.side_tag-second.ensures in
    marked_there (right_tag c.args.width c.args.tests.now) c.side_tag-second.result c.args.change.now c.args.self.now.rows c.args.self.now.second_tags at c.requires.crossed.second_are c.requires.there

pub returns-clause-crossed : goal.returns-clause-crossed
returns-clause-crossed c =
    let first : left_tag c.args.width c.args.tests.now (changed_row c.args.change.now).payload ≡ c.side_tag-first.result = ap (λ (r : Row). left_tag c.args.width c.args.tests.now r.payload) (sym c.row.ensures) ∙ sym c.side_tag-first.ensures in
    let second : right_tag c.args.width c.args.tests.now (changed_row c.args.change.now).payload ≡ c.side_tag-second.result = ap (λ (r : Row). right_tag c.args.width c.args.tests.now r.payload) (sym c.row.ensures) ∙ sym c.side_tag-second.ensures in
    on_ok_weaker c.apply.result (λ step. record {
      first_are = tagged_step (left_tag c.args.width c.args.tests.now) c.side_tag-first.result c.args.change.now c.args.self.now.rows c.apply.new.self c.args.self.now.first_tags c.apply_tagged.new.tags first c.requires.crossed.first_are c.in_ok-apply_tagged.ensures.ok step;
      second_are = tagged_step (right_tag c.args.width c.args.tests.now) c.side_tag-second.result c.args.change.now c.args.self.now.rows c.apply.new.self c.args.self.now.second_tags c.apply_tagged-2.new.tags second c.requires.crossed.second_are c.in_ok-apply_tagged-2.ensures.ok step;
    }) c.apply.ensures.ok
