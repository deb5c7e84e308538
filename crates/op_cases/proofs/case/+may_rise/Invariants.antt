use Rattle.std.proofs.Common.{length}
use Rattle.op_cases.proofs.case.+may_rise.Given as goal

abbrev pub decreases-may_rise : goal.decreases-may_rise
decreases-may_rise l = length l.marks.now
