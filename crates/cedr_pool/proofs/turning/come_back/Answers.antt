use Rattle.std.proofs.Common.{◌≡◌, ◌≤◌, ◌+◌, [], length, map, sym, ap, ◌∙◌, subst, arith, rules}
use Rattle.cedr_pool.specs.Tasks.{AllStay, numbered_from, task_worker, tasks_entries}
use Rattle.cedr_pool.proofs.OrderLemmas.{sorted_back}
use Rattle.cedr_pool.proofs.TaskLemmas.{entries_count, numbered_length, workers_of}
use Rattle.cedr_pool.proofs.turning.come_back.Goals as goal

pub gather-tasks-requires-clause-all : goal.gather-tasks-requires-clause-all
gather-tasks-requires-clause-all g c κs within =
    let crew = c.requires.all.0 in
    (numbered_from 0 crew, c.requires.all.1, omega (arith, numbered_length 0 crew, c.requires.all.2.tasks.1))

pub take_workers-requires : goal.take_workers-requires
take_workers-requires g c =
    let crew = c.requires.all.0 in
    let same = sorted_back crew c.gather-tasks.result.items c.sort_tasks.new.tasks.items (c.gather-tasks.ensures (numbered_from 0 crew) c.requires.all.1) c.sort_tasks.ensures.same c.sort_tasks.ensures.sorted in
    omega (arith, entries_count c.sort_tasks.new.tasks.items, ap length same, numbered_length 0 crew, ap length c.requires.all.2.workers.0, c.requires.all.2.workers.1, ap length c.from_vec.ensures.items)

pub returns : goal.returns
returns g c = λ crew all.
    let same = sorted_back crew c.gather-tasks.result.items c.sort_tasks.new.tasks.items (c.gather-tasks.ensures (numbered_from 0 crew) all) c.sort_tasks.ensures.same c.sort_tasks.ensures.sorted in
    let are : map task_worker c.from_vec.result.items ≡ crew = ap (map task_worker) c.from_vec.ensures.items ∙ workers_of 0 c.sort_tasks.new.tasks.items crew same in
    let none : AllStay g.W.Works.stays [] c.args.room.workers.items = subst (AllStay g.W.Works.stays []) (sym c.requires.all.2.workers.0) tt in
    subst (λ ws. AllStay g.W.Works.stays ws c.take_workers.new.workers.items) are (c.take_workers.ensures [] none)
