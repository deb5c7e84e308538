use Rattle.plan_report.specs.Watching.{ReadsOn}
use Rattle.plan_report.proofs.watching.read_all.Given as goal

abbrev pub invariant-loop : goal.invariant-loop
invariant-loop g l = ReadsOn l.initial.reader l.reader
