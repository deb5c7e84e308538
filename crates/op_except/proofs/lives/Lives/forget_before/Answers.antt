use Rattle.std.proofs.Common.{ℕ, ◌≡◌, ◌+◌, arith, subst}
use Rattle.std.specs.List.{filter}
use Rattle.cedr_base.specs.Rows.{SameRows}
use Rattle.op_except.specs.Lives.{lasts_to}
use Rattle.op_except.proofs.TrimLemmas.{filter_none, zero_mark}
use Rattle.op_except.proofs.lives.Lives.forget_before.Goals as goal

pub returns-in-Some-clause-left : goal.returns-in-Some-clause-left
returns-in-Some-clause-left c =
    let next : c.in-Some.last + 1 ≡ c.args.mark = (let some = c.in-Some.ensures.0 in omega (arith, c.in-Some.ensures.1)) in
    subst (λ (n : ℕ). SameRows c.forget_ended.new.self.by_end (filter (lasts_to n) c.args.self.now.by_end)) next c.forget_ended.ensures.left

pub returns-in_default-clause-left : goal.returns-in_default-clause-left
returns-in_default-clause-left c = filter_none c.args.mark c.args.self.now.by_end (zero_mark c.args.mark c.in_default.ensures)
