use Rattle.std.proofs.Common.{◌++◌, List, subst}
use Rattle.cedr_base.specs.declared.row.Row.{Row}
use Rattle.filed_rows.specs.Filed.{all_under}
use Rattle.cedr_table.proofs.RowsLemmas.{fewer_are}
use Rattle.op_except.specs.Around.{Gathers}
use Rattle.op_except.proofs.AroundLemmas.{gathers_along}
use Rattle.op_except.proofs.RangeLemmas.{head_under, under_further, under_done, in_under}
use Rattle.op_except.proofs.around.gather_all.Goals as goal

pub loop-rows-preserved : goal.loop-rows-preserved
loop-rows-preserved c =
    let inv = c.loop-rows.invariant in
    record {
      done = inv.done ++ c.in-Some.rows.now;
      all = under_further c.in-Some.field-0-0.now c.in-Some.rows.now c.loop-rows.rows-iterator c.next.new.self c.in-Some.ensures.steps inv.done (all_under c.args.right.now.entries) inv.all;
      gathers = λ are.
          gathers_along c.args.tests.now c.args.part.now inv.done c.in-Some.rows.now c.args.busy.now c.loop-rows.busy c.gather.new.busy (inv.gathers are)
          (c.in_ok-gather.ensures (fewer_are c.in-Some.rows.now (all_under c.args.right.now.entries)
          (λ r there. in_under c.loop-rows.rows-iterator inv.done (all_under c.args.right.now.entries) r inv.all (head_under c.in-Some.field-0-0.now c.in-Some.rows.now c.loop-rows.rows-iterator c.next.new.self c.in-Some.ensures.steps r there)) are));
    }

pub returns : goal.returns
returns c = λ are.
    let inv = c.loop-rows.invariant in
    subst (λ (rows : List Row). Gathers c.args.tests.now rows c.args.part.now c.args.busy.now c.loop-rows.busy) (under_done c.loop-rows.rows-iterator inv.done (all_under c.args.right.now.entries) c.in-None.ensures.steps.0 inv.all) (inv.gathers are)
