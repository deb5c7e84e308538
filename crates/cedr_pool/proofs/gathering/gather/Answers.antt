use Rattle.std.proofs.Common.{◌≡◌, ◌≤◌, ◌+◌, length, map, sym, ap, ◌∙◌, subst, arith, rules, IsPermutation}
use Rattle.std.specs.Vec.{vec_capacity}
use Rattle.pool_queue.specs.Passes.{AreAllOf}
use Rattle.cedr_pool.specs.Seats.{all_rows, pass_of, row_of}
use Rattle.cedr_pool.specs.Tasks.{tasks_entries}
use Rattle.cedr_pool.proofs.SeatLemmas.{gathered, gather_room}
use Rattle.cedr_pool.proofs.gathering.gather.Goals as goal

pub unreachable-requires : goal.unreachable-requires
unreachable-requires g c =
    let passes : c.stand_up.new.passes.items ≡ map pass_of c.args.seats.items = search rules in
    let left = c.close_tasks-left.ensures c.requires.all.0 (subst (AreAllOf c.requires.all.0) (sym passes) c.requires.all.1) in
    let both = gather_room c.requires.all.0 c.close_tasks-left.result.items c.args.seats.items c.stand_up.new.passes.items (vec_capacity c.args.tasks) c.requires.ended passes left c.requires.all.2 in
    let room : length c.args.tasks.items + length c.close_tasks-left.result.items ≤ vec_capacity c.args.tasks = omega (arith, both, ap length c.requires.tasks) in
    search rules

pub gather_rows-requires : goal.gather_rows-requires
gather_rows-requires g c =
    let passes : c.stand_up.new.passes.items ≡ map pass_of c.args.seats.items = search rules in
    let rows : c.from_vec-2.result.items ≡ map row_of c.args.seats.items = search rules in
    let now : c.append.new.self.items ≡ c.close_tasks-left.result.items = search rules in
    let left = c.close_tasks-left.ensures c.requires.all.0 (subst (AreAllOf c.requires.all.0) (sym passes) c.requires.all.1) in
    let both = gather_room c.requires.all.0 c.close_tasks-left.result.items c.args.seats.items c.stand_up.new.passes.items (vec_capacity c.args.tasks) c.requires.ended passes left c.requires.all.2 in
    omega (arith, both, ap length now, ap (λ rs. length (all_rows rs)) rows, c.in-Ok.ensures.capacity)

pub returns : goal.returns
returns g c =
    let passes : c.stand_up.new.passes.items ≡ map pass_of c.args.seats.items = search rules in
    let rows : c.from_vec-2.result.items ≡ map row_of c.args.seats.items = search rules in
    let now : c.append.new.self.items ≡ c.close_tasks-left.result.items = search rules in
    λ opened all.
    gathered opened c.close_tasks-left.result.items c.args.seats.items c.stand_up.new.passes.items c.append.new.self.items c.from_vec-2.result.items c.gather_rows.new.tasks.items c.requires.ended passes rows now (c.close_tasks-left.ensures opened (subst (AreAllOf opened) (sym passes) all)) c.gather_rows.ensures
