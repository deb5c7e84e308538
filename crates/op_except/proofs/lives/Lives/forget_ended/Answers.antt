use Rattle.std.proofs.Common.{sym, subst, List}
use Rattle.std.specs.List.{filter}
use Rattle.cedr_base.specs.Rows.{SameRows}
use Rattle.op_except.specs.Lives.{AreLives}
use Rattle.cedr_base.specs.declared.row.Row.{Row}
use Rattle.cedr_table.specs.Counted.{ends_after}
use Rattle.cedr_table.proofs.FilterLemmas.{among_itself, one_goes, none_goes, fewer_left}
use Rattle.op_except.proofs.LifeLemmas.{lives_popped, reach_filter}
use Rattle.op_except.proofs.lives.Lives.forget_ended.Goals as goal

pub loop-gone-init : goal.loop-gone-init
loop-gone-init c = record { lives = c.requires; same = among_itself (ends_after c.args.time) c.args.self.now.by_end }

pub loop-gone-smaller : goal.loop-gone-smaller
loop-gone-smaller c = let out = c.in-Some.ensures.taken in fewer_left c.in-Some.gone c.in-Some.field-0-1 c.loop-gone.self.by_end c.pop_ended.new.self out.1 out.3

pub loop-gone-preserved : goal.loop-gone-preserved
loop-gone-preserved c =
    let out = c.in-Some.ensures.taken in
    record {
      lives = lives_popped c.loop-gone.self.by_begin.keys c.remove.new.self.keys c.loop-gone.self.by_end c.pop_ended.new.self c.in-Some.gone c.in-Some.field-0-1 c.loop-gone.invariant.lives out.1 out.2 c.remove.ensures.updates.0 out.3;
      same = one_goes (ends_after c.args.time) c.args.self.now.by_end c.loop-gone.self.by_end c.pop_ended.new.self (c.in-Some.gone, c.in-Some.field-0-1) out c.loop-gone.invariant.same;
    }

pub returns-clause-lives : goal.returns-clause-lives
returns-clause-lives c = subst (λ (rows : List Row). AreLives c.loop-gone.self.by_begin.keys rows) (sym c.in_default.ensures.taken.0) c.loop-gone.invariant.lives

pub returns-clause-left : goal.returns-clause-left
returns-clause-left c = reach_filter c.args.time c.pop_ended.new.self c.args.self.now.by_end
    (subst (λ (rows : List Row). SameRows rows (filter (ends_after c.args.time) c.args.self.now.by_end)) (sym c.in_default.ensures.taken.0)
    (none_goes (ends_after c.args.time) c.args.self.now.by_end c.loop-gone.self.by_end c.in_default.ensures.taken.1 c.loop-gone.invariant.same))
