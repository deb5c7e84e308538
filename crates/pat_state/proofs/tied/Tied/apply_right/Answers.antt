use Rattle.std.proofs.Common.{◌≡◌, ◌∙◌, ap, sym}
use Rattle.std.proofs.lemmas.Result.{on_ok_weaker}
use Rattle.cedr_base.specs.declared.row.Row.{Row}
use Rattle.cedr_base.specs.Changes.{changed_row}
use Rattle.cedr_expr.specs.Tags.{right_tag}
use Rattle.pat_state.specs.Tied.{right_rows}
use Rattle.pat_state.proofs.TagLemmas.{marked_there}
use Rattle.pat_state.proofs.BagLemmas.{are_tagged, bag_step, have_step}
use Rattle.pat_state.proofs.tied.Tied.apply_right.Goals as goal

pub apply-requires : goal.apply-requires
apply-requires c =
    let tag = right_tag c.args.self.now.width c.args.tests.now in
    let at : tag (changed_row c.args.change.now).payload ≡ c.side_tag-tag.result = ap (λ (r : Row). tag r.payload) (sym c.row.ensures) ∙ sym c.side_tag-tag.ensures in
    marked_there tag c.side_tag-tag.result c.args.change.now (right_rows c.args.self.now) c.args.self.now.right.tags at (are_tagged tag c.args.self.now.right.tags c.requires.tied.right_are) c.requires.there

pub returns-clause-tied : goal.returns-clause-tied
returns-clause-tied c =
    let tag = right_tag c.args.self.now.width c.args.tests.now in
    let at : tag (changed_row c.args.change.now).payload ≡ c.side_tag-tag.result = ap (λ (r : Row). tag r.payload) (sym c.row.ensures) ∙ sym c.side_tag-tag.ensures in
    on_ok_weaker c.apply.result (λ step. record {
      left_are = c.requires.tied.left_are;
      right_are = have_step tag c.side_tag-tag.result c.args.change.now c.args.self.now.right.tags c.apply.new.self.tags at c.requires.tied.right_are step;
    }) c.apply.ensures.ok

pub returns-clause-right : goal.returns-clause-right
returns-clause-right c = on_ok_weaker c.apply.result (λ step. bag_step c.side_tag-tag.result c.args.change.now c.args.self.now.right.tags c.apply.new.self.tags step) c.apply.ensures.ok
