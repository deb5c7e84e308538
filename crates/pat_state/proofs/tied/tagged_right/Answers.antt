use Rattle.std.proofs.Common.{◌≡◌, ◌∙◌, sym, subst, List, rules}
use Rattle.std.proofs.lemmas.Iterator.Adapters.{YieldsList-from_vec}
use Rattle.std.proofs.lemmas.Iterator.Consumers.{YieldsList-end}
use Rattle.std.proofs.lemmas.List.{map-id}
use Rattle.cedr_base.specs.declared.row.Row.{Row}
use Rattle.cedr_base.specs.declared.change.Change.TheVariants.{Add}
use Rattle.cedr_base.specs.Rows.{in_order, SameRows}
use Rattle.cedr_base.proofs.Sorting.{in_order_counts}
use Rattle.change_laws.proofs.BagSums.{same_along, same_back}
use Rattle.cedr_expr.specs.Tags.{right_tag}
use Rattle.pat_state.specs.Starts.{all_endless}
use Rattle.pat_state.proofs.EndlessLemmas.{same_endless}
use Rattle.pat_state.proofs.BagLemmas.{one_bag, one_row_more, have_step}
use Rattle.pat_state.proofs.tied.tagged_right.Goals as goal

pub loop-row-preserved-in_ok-apply : goal.loop-row-preserved-in_ok-apply
loop-row-preserved-in_ok-apply c =
    let was = c.loop-row.invariant in
    record {
      tags = have_step (right_tag c.args.width c.args.tests.now) c.tag-tag.result (Add c.in-Some.row) c.loop-row.tagged.tags c.apply.new.self.tags (sym c.tag-tag.ensures) was.tags c.in_ok-apply.ensures.ok;
      rows = one_row_more c.tag-tag.result c.in-Some.row c.loop-row.tagged.tags c.apply.new.self.tags c.loop-row.yielded c.in_ok-apply.ensures.ok was.rows;
    }

pub returns-clause-rows : goal.returns-clause-rows
returns-clause-rows c =
    let l = c.loop-row in
    let right = c.args.right.now.tags in
    let yields = YieldsList-from_vec {s = c.into_iter-row-iterator.result} c.in_ok-rows.rows.items (search rules) (search rules) in
    let all = YieldsList-end yields l.yielded l.row-iterator l.yielded_by c.next.result c.next.new.self c.in-None.is c.next.ensures.steps in
    let were : l.yielded ≡ in_order right = sym (map-id l.yielded) ∙ (all.0 ∙ c.in_ok-rows.ensures) in
    let same = subst (λ (rows : List Row). SameRows (all_endless l.tagged.tags) (all_endless rows)) were l.invariant.rows in
    one_bag l.tagged.tags right (same_along (all_endless l.tagged.tags) (all_endless (in_order right)) (all_endless right) same (same_endless (in_order right) right (same_back right (in_order right) (in_order_counts right))))
