use Rattle.std.proofs.Common.{◌≡◌, ◌∙◌, subst, List, arith, take}
use Rattle.std.proofs.lemmas.List.{take_all}
use Rattle.cedr_base.specs.declared.row.Row.{Row}
use Rattle.cedr_base.specs.Rows.{SameRows, in_order}
use Rattle.cedr_base.proofs.Sorting.{in_order_counts}
use Rattle.change_laws.proofs.BagSums.{same_back, same_along}
use Rattle.cedr_table.proofs.table.Table.copy.Goals as goal

pub returns : goal.returns
returns c =
    let rows = c.as_slice-row-items.result.now in
    let all : take c.loop-row.row-index c.as_slice-row-items.result.now ≡ c.as_slice-row-items.result.now = take_all c.loop-row.row-index rows (omega arith) in
    let listed = all ∙ (c.as_slice-row-items.ensures.value ∙ c.in_ok-rows.ensures) in
    same_along c.loop-row.copied (in_order c.args.self.now) c.args.self.now
    (subst (λ (xs : List Row). SameRows c.loop-row.copied xs) listed c.loop-row.invariant)
    (same_back c.args.self.now (in_order c.args.self.now) (in_order_counts c.args.self.now))
