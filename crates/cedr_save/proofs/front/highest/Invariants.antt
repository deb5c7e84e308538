use Rattle.std.proofs.Common.{◌-◌}
use Rattle.cedr_save.proofs.NumberFronts.{IsRaised}
use Rattle.cedr_save.proofs.front.highest.Given as goal

abbrev pub invariant-loop-low : goal.invariant-loop-low
invariant-loop-low l = IsRaised l.number l.last l.low l.high

abbrev pub decreases-loop-low : goal.decreases-loop-low
decreases-loop-low l = l.last - l.low
