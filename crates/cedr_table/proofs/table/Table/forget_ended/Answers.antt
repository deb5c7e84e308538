use Rattle.std.proofs.Common.{List, sym, subst}
use Rattle.cedr_base.specs.declared.row.Row.{Row}
use Rattle.cedr_base.specs.Rows.{SameRows}
use Rattle.std.specs.List.{filter}
use Rattle.cedr_table.specs.Counted.{ends_after}
use Rattle.cedr_table.proofs.FilterLemmas.{among_itself, one_goes, none_goes, fewer_left}
use Rattle.cedr_table.proofs.table.Table.forget_ended.Goals as goal

pub loop-gone-init : goal.loop-gone-init
loop-gone-init c = among_itself (ends_after c.args.time) c.args.self.now

pub loop-gone-smaller : goal.loop-gone-smaller
loop-gone-smaller c = let out = c.in-Some.ensures.taken in fewer_left c.in-Some._gone.0 c.in-Some._gone.1 c.loop-gone.self c.pop_ended.new.self out.1 out.3

pub loop-gone-preserved : goal.loop-gone-preserved
loop-gone-preserved c = one_goes (ends_after c.args.time) c.args.self.now c.loop-gone.self c.pop_ended.new.self c.in-Some._gone c.in-Some.ensures.taken c.loop-gone.invariant

pub returns : goal.returns
returns c =
    let out = c.in_default.ensures.taken in
    subst (λ (rows : List Row). SameRows rows (filter (ends_after c.args.time) c.args.self.now)) (sym out.0) (none_goes (ends_after c.args.time) c.args.self.now c.loop-gone.self out.1 c.loop-gone.invariant)
