use Rattle.std.proofs.Common.{List, sym, subst, arith, replicate}
use Rattle.std.specs.List.{filter}
use Rattle.cedr_base.specs.declared.row.Row.{Row}
use Rattle.cedr_base.specs.Rows.{SameRows}
use Rattle.cedr_base.proofs.Bags.{count_of-append}
use Rattle.cedr_table.proofs.FilterLemmas.{one_goes, none_goes, fewer_left}
use Rattle.pat_state.specs.Starts.{scope_reaches}
use Rattle.pat_state.proofs.ForgetLemmas.{endless_left}
use Rattle.pat_state.proofs.by_begin.drop_passed.Goals as goal

pub loop-gone-smaller : goal.loop-gone-smaller
loop-gone-smaller c = let out = c.in-Some.ensures in fewer_left c.in-Some._gone.0 c.in-Some._gone.1 c.loop-gone.rows c.pop_passed.new.rows out.1 out.3

pub loop-gone-preserved : goal.loop-gone-preserved
loop-gone-preserved c =
    let out = c.in-Some.ensures in
    let was = c.loop-gone.invariant in
    record {
      same = one_goes (scope_reaches c.args.scope c.args.time) c.args.rows.now c.loop-gone.rows c.pop_passed.new.rows c.in-Some._gone out was.same;
      endless = endless_left c.loop-gone.rows c.pop_passed.new.rows (λ r. omega (arith, out.3.each r, count_of-append r (replicate c.in-Some._gone.1 c.in-Some._gone.0) c.pop_passed.new.rows)) was.endless;
    }

pub returns-clause-left : goal.returns-clause-left
returns-clause-left c =
    let out = c.in_default.ensures in
    subst (λ (rows : List Row). SameRows rows (filter (scope_reaches c.args.scope c.args.time) c.args.rows.now)) (sym out.0) (none_goes (scope_reaches c.args.scope c.args.time) c.args.rows.now c.loop-gone.rows out.1 c.loop-gone.invariant.same)
