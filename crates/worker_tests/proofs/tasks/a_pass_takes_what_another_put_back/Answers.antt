use Rattle.worker_tests.proofs.TwoPasses.{two_still, still_held, still_refused, still_on}
use Rattle.worker_tests.proofs.tasks.a_pass_takes_what_another_put_back.Goals as goal

pub close_two-left-requires-clause-all : goal.close_two-left-requires-clause-all
close_two-left-requires-clause-all g c =
    let first = still_on _ _ _ (still_held _ _ _ c.in-Some.ensures.taken) (still_held _ _ _ c.put.ensures) in
    let second = still_on _ _ _ (still_on _ _ _ (still_held _ _ _ c.in-Some-take.ensures.taken) (still_refused _ _ _ c.in-None.ensures.none)) (still_held _ _ _ c.in-Some-take-2.ensures.taken) in
    (_, two_still _ c.in-Ok.passes.items _ _ _ _ c.in-Ok.ensures.all c.two_of-first.ensures first second)
