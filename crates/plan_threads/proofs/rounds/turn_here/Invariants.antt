use Rattle.std.proofs.Common.{◌≡◌, List, length}
use Rattle.plan_workers.specs.Roles.{Role}
use Rattle.plan_threads.specs.Seats.{AllSeatAs}
use Rattle.plan_threads.proofs.rounds.turn_here.Given as goal

-- each worker is still what it was made for
abbrev pub invariant-loop-i : goal.invariant-loop-i
invariant-loop-i g l = record {
  seats : (roles : List Role) → AllSeatAs g.S.Source.rest g.S.Source.faults roles l.fn.seats.items → AllSeatAs g.S.Source.rest g.S.Source.faults roles l.seats.items;
  count : length l.seats.items ≡ length l.fn.seats.items;
}
