use Rattle.std.proofs.Common.{◌≡◌, length}
use Rattle.plan_threads.proofs.room.new_posts.Given as goal

abbrev pub invariant-loop : goal.invariant-loop
invariant-loop g l = length l.posts.items ≡ l.counter
