use Rattle.std.proofs.Common.{◌≡◌, ◌∙◌, ◌++◌, ap, subst, sym, List}
use Rattle.std.proofs.lemmas.Result.{on_ok_weaker}
use Rattle.cedr_base.specs.declared.row.Row.{Row}
use Rattle.cedr_base.specs.Rows.{SameRows}
use Rattle.cedr_base.specs.Changes.{puts, takes, changed_row}
use Rattle.cedr_expr.specs.Tags.{left_tag}
use Rattle.pat_state.specs.Starts.{all_endless, HasRow}
use Rattle.pat_state.specs.Tags.{bag_of}
use Rattle.pat_state.specs.Tied.{left_rows}
use Rattle.pat_state.proofs.TagLemmas.{marked_there}
use Rattle.pat_state.proofs.BagLemmas.{are_tagged, bag_step, have_step}
use Rattle.pat_state.proofs.tied.Tied.apply_left.Goals as goal

pub apply-requires : goal.apply-requires
apply-requires c =
    let tag = left_tag c.settle.new.self.width c.args.tests.now in
    let at : tag (changed_row c.args.change.now).payload ≡ c.side_tag-tag.result = ap (λ (r : Row). tag r.payload) (sym c.row.ensures) ∙ sym c.side_tag-tag.ensures in
    let there = subst (λ (rows : List Row). HasRow rows c.args.change.now) (sym c.in_ok-settle.ensures.left) c.requires.there in
    marked_there tag c.side_tag-tag.result c.args.change.now (left_rows c.settle.new.self) c.settle.new.self.left.tags at (are_tagged tag c.settle.new.self.left.tags c.in_ok-settle.ensures.tied.left_are) there

pub returns-clause-tied : goal.returns-clause-tied
returns-clause-tied c =
    let tag = left_tag c.settle.new.self.width c.args.tests.now in
    let at : tag (changed_row c.args.change.now).payload ≡ c.side_tag-tag.result = ap (λ (r : Row). tag r.payload) (sym c.row.ensures) ∙ sym c.side_tag-tag.ensures in
    on_ok_weaker c.apply.result (λ step. record {
      left_are = have_step tag c.side_tag-tag.result c.args.change.now c.settle.new.self.left.tags c.apply.new.self.tags at c.in_ok-settle.ensures.tied.left_are step;
      right_are = c.in_ok-settle.ensures.tied.right_are;
    }) c.apply.ensures.ok

pub returns-clause-left : goal.returns-clause-left
returns-clause-left c = on_ok_weaker c.apply.result
    (λ step. subst (λ (rows : List Row). SameRows (bag_of c.apply.new.self.tags ++ all_endless (takes c.args.change.now)) (rows ++ all_endless (puts c.args.change.now))) c.in_ok-settle.ensures.left
    (bag_step c.side_tag-tag.result c.args.change.now c.settle.new.self.left.tags c.apply.new.self.tags step))
    c.apply.ensures.ok
