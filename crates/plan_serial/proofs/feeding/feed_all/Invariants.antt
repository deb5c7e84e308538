use Rattle.std.proofs.Common.{List, ℕ}
use Rattle.cedr_plan.specs.declared.plan.PlanNode.{PlanNode}
use Rattle.plan_serial.specs.Rounds.{ByLine}
use Rattle.plan_serial.specs.Feeding.{StandsAfterRounds, left_count}
use Rattle.plan_serial.proofs.feeding.feed_all.Given as goal

abbrev pub invariant-loop : goal.invariant-loop
invariant-loop l = (nodes : List PlanNode) (whole : ByLine) (rounds : ℕ) → StandsAfterRounds nodes l.initial.net l.initial.remaining.items whole rounds → (now : ℕ) × StandsAfterRounds nodes l.net l.remaining.items whole now

abbrev pub decreases-loop : goal.decreases-loop
decreases-loop l = left_count l.remaining.items
