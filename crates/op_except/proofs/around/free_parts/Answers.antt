use Rattle.std.proofs.Common.{sym, ◌++◌, List, subst, arith}
use Rattle.std.specs.List.{filter}
use Rattle.cedr_base.specs.declared.row.Row.{Row}
use Rattle.cedr_base.specs.Rows.{SameRows}
use Rattle.filed_rows.specs.Spans.{lives_within}
use Rattle.cedr_table.proofs.FilterLemmas.{fewer_left}
use Rattle.change_laws.proofs.BagSums.{same_itself}
use Rattle.op_except.specs.Parts.{parts}
use Rattle.op_except.specs.Around.{unflipped}
use Rattle.op_except.proofs.AroundLemmas.{sweep_on, sweep_ends, fewer_flipped}
use Rattle.op_except.proofs.around.free_parts.Goals as goal

pub loop-next-init : goal.loop-next-init
loop-next-init c = λ flip. (
  flip,
  subst (λ (found : List Row). SameRows (found ++ filter (lives_within c.args.from c.args.to) (parts c.args.row (unflipped c.args.busy))) (filter (lives_within c.args.from c.args.to) (parts c.args.row (unflipped c.args.busy)))) (sym c.new-found.ensures.items)
      (same_itself (filter (lives_within c.args.from c.args.to) (parts c.args.row (unflipped c.args.busy)))),
)

pub loop-next-preserved : goal.loop-next-preserved
loop-next-preserved c = λ flip.
    let so_far = c.loop-next.invariant flip in
    let out = c.in-Some.ensures.some in (
      fewer_flipped c.in-Some.next c.in-Some.field-0-1 c.loop-next.busy c.pop_first.new.self out.2 so_far.0,
      sweep_on c.args.from c.args.to c.loop-next.rest c.in-Some.next _ c.in-Some.field-0-1 c.loop-next.busy c.pop_first.new.self c.loop-next.found.items c.push_free.new.found.items (filter (lives_within c.args.from c.args.to) (parts c.args.row (unflipped c.args.busy)))
          so_far.0 out.0 out.1 out.2 c.in_ok-push_free.ensures (λ i. record c.loop-next.rest { begin = c.max.ensures i }) so_far.1,
    )

pub loop-next-smaller : goal.loop-next-smaller
loop-next-smaller c = let out = c.in-Some.ensures.some in let there = out.0.there in fewer_left c.in-Some.next c.in-Some.field-0-1 c.loop-next.busy c.pop_first.new.self (omega (arith, out.1)) out.2

pub returns : goal.returns
returns c = λ flip.
    sweep_ends c.args.from c.args.to c.loop-next.rest c.loop-next.busy c.loop-next.found.items c.push_free-2.new.found.items (filter (lives_within c.args.from c.args.to) (parts c.args.row (unflipped c.args.busy)))
    c.in_default.ensures.none.0 c.in_ok-push_free-2.ensures (c.loop-next.invariant flip).1
