-- The closure's own clause, and that what it holds may go to another thread.
use Rattle.plan_threads.proofs.seat.fn.start.spawn_with+FnOnce.call_once.Goals as goal

pub spawn_with-requires : goal.spawn_with-requires
spawn_with-requires g c =
    let holds = c.requires.1.1.1 in (holds.1.0, (holds.1.1, (holds.1.2, (holds.1.3, holds.0))))
