use Rattle.std.proofs.Common.{arith}
use Rattle.filed_rows.specs.Filed.{under}
use Rattle.op_except.proofs.TrimLemmas.{filter_before, filter_none, zero_mark}
use Rattle.op_except.proofs.except.forget_before.Goals as goal

pub returns-in-Some-clause-kept : goal.returns-in-Some-clause-kept
returns-in-Some-clause-kept c = λ q. let some = c.in-Some.ensures.0 in filter_before c.in-Some.last c.args.mark (under c.forget_ended.new.self.by_tag.entries q) (under c.args.filed.now.by_tag.entries q) (omega (arith, c.in-Some.ensures.1)) (c.forget_ended.ensures.kept q)

pub returns-in_default-clause-kept : goal.returns-in_default-clause-kept
returns-in_default-clause-kept c = λ q. filter_none c.args.mark (under c.args.filed.now.by_tag.entries q) (zero_mark c.args.mark c.in_default.ensures)
