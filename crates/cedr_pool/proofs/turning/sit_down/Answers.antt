use Rattle.std.proofs.Common.{◌≡◌, length, sym, ap, ◌∙◌, subst, arith, rules}
use Rattle.pool_queue.specs.Entries.{AreNumberedApart}
use Rattle.cedr_pool.specs.Tasks.{numbered_from, tasks_entries}
use Rattle.cedr_pool.proofs.SeatLemmas.{all_hold_none}
use Rattle.cedr_pool.proofs.TaskLemmas.{entries_count, numbered_apart, numbered_length}
use Rattle.cedr_pool.proofs.turning.sit_down.Goals as goal

pub fill-passes-requires-clause-room : goal.fill-passes-requires-clause-room
fill-passes-requires-clause-room g c =
    let size = ap (λ r. r.tasks) c.requires.room.queue in
    sym (entries_count c.open_each-tasks.result.items) ∙ (ap length c.open_each-tasks.ensures ∙ (numbered_length 0 c.args.crew.items ∙ sym size))

pub fill-passes-requires-clause-apart : goal.fill-passes-requires-clause-apart
fill-passes-requires-clause-apart g c = subst AreNumberedApart (sym c.open_each-tasks.ensures) (numbered_apart 0 c.args.crew.items)

pub seat_each-requires-clause-passes : goal.seat_each-requires-clause-passes
seat_each-requires-clause-passes g c =
    let count : length (tasks_entries c.open_each-tasks.result.items) ≡ length c.args.crew.items = ap length c.open_each-tasks.ensures ∙ numbered_length 0 c.args.crew.items in
    (length c.args.crew.items, all_hold_none _ c.fill-passes.result.items (length c.args.crew.items) c.fill-passes.ensures.all c.fill-passes.ensures.new (omega (arith, count)), c.requires.room.rows.1)
