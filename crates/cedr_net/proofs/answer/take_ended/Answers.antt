use Rattle.std.proofs.Common.{◌∙◌, ◌++◌, List, ap, sym, subst, not}
use Rattle.std.specs.List.{filter}
use Rattle.std.proofs.lemmas.List.{append-nil}
use Rattle.cedr_base.specs.declared.row.Row.{Row}
use Rattle.cedr_base.specs.Rows.{SameRows}
use Rattle.cedr_table.specs.Counted.{ends_after}
use Rattle.cedr_table.proofs.FilterLemmas.{one_goes, none_goes, fewer_left}
use Rattle.cedr_net.proofs.FinalLemmas.{one_taken, none_taken}
use Rattle.cedr_net.proofs.answer.take_ended.Goals as goal

pub loop-row-smaller : goal.loop-row-smaller
loop-row-smaller c = let out = c.in-Some.ensures.taken in fewer_left c.in-Some.row c.in-Some.count c.loop-row.table c.pop_ended.new.self out.1 out.3

pub loop-row-preserved : goal.loop-row-preserved
loop-row-preserved c =
    let time = c.args.time in
    let goes = λ (r : Row). not (ends_after time r) in
    let out = c.in-Some.ensures.taken in (
      one_goes (ends_after time) c.args.table.now c.loop-row.table c.pop_ended.new.self (c.in-Some.row, c.in-Some.count) out c.loop-row.invariant.0,
      one_taken goes c.in-Some.row c.in-Some.count c.loop-row.table c.pop_ended.new.self c.loop-row.rows.items c.push_copies.new.rows.items out c.in-Some.ensures.first c.in_ok-push_copies.ensures ∙ c.loop-row.invariant.1,
    )

pub returns-clause-taken : goal.returns-clause-taken
returns-clause-taken c =
    let goes = λ (r : Row). not (ends_after c.args.time r) in
    sym (append-nil c.loop-row.rows.items) ∙ (ap (λ (rs : List Row). c.loop-row.rows.items ++ rs) (sym (none_taken goes c.loop-row.table c.in_default.ensures.taken.1)) ∙ c.loop-row.invariant.1)

pub returns-clause-left : goal.returns-clause-left
returns-clause-left c =
    let out = c.in_default.ensures.taken in
    subst (λ (rows : List Row). SameRows rows (filter (ends_after c.args.time) c.args.table.now)) (sym out.0) (none_goes (ends_after c.args.time) c.args.table.now c.loop-row.table out.1 c.loop-row.invariant.0)
