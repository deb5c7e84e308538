use Rattle.std.proofs.Common.{◌∙◌, subst, sym, ◌<◌, ℕ}
use Rattle.cedr_table.proofs.FilterLemmas.{fewer_left}
use Rattle.cedr_net.proofs.FinalLemmas.{first_taken}
use Rattle.cedr_net.proofs.answer.take_rest.Goals as goal

pub loop-row-smaller : goal.loop-row-smaller
loop-row-smaller c =
    let found = c.in-Some.ensures.some in
    fewer_left c.in-Some.row c.in-Some.count c.loop-row.table c.pop_first.new.self (subst (λ (n : ℕ). 0 < n) (sym found.1) found.0.there) found.2

pub loop-row-preserved : goal.loop-row-preserved
loop-row-preserved c =
    let found = c.in-Some.ensures.some in
    first_taken c.in-Some.row c.in-Some.count c.loop-row.table c.pop_first.new.self c.loop-row.rows.items c.push_copies.new.rows.items found.0 found.2 c.in_ok-push_copies.ensures ∙ c.loop-row.invariant
