use Rattle.std.proofs.Common.{length}
use Rattle.plan_report.proofs.outcome.+list_faulty.Given as goal

abbrev pub decreases-list_faulty : goal.decreases-list_faulty
decreases-list_faulty g l = length l.nodes.now
