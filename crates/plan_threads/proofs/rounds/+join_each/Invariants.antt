use Rattle.std.proofs.Common.{length}
use Rattle.plan_threads.proofs.rounds.+join_each.Given as goal

abbrev pub decreases-join_each : goal.decreases-join_each
decreases-join_each g l = length l.seats.items
